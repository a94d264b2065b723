-- `Rows::without` meets its contract.
use Rattle.std.proofs.Common.{ℕ, Bool, List, not, eqb, ◌≡◌, ◌∙◌, ap, rules, refl}
use Rattle.std.specs.List.{list_any}
use Rattle.rules.specs.Lists.{has}
use Rattle.lists.proofs.Iterators.{shown_has}
use Rattle.lists.proofs.Kept.{kept_shows, kept_any}
use Rattle.rows.specs.View.{view_rows, rows_form}
use Rattle.rows.proofs.Rows.without.Goals as goal

-- what the closure answers, from what `contains` answers
not_in : (n : ℕ) (l ys : List ℕ) {b r : Bool} → b ≡ not r → r ≡ list_any (λ m. eqb m n) ys → ys ≡ l → b ≡ not (has n l)
not_in n l ys e t m = e ∙ ap not (shown_has n l ys t m)

pub returns-clause-shows : goal.returns-clause-shows
unfolding view_rows
returns-clause-shows c = kept_shows _ _ _ _ _ (c.keep.ensures.kept _ (λ x b k. search (not_in, rules))) (λ n. n) _ (λ x. refl)

pub returns-clause-form : goal.returns-clause-form
unfolding rows_form
returns-clause-form c =
    let k = c.keep.ensures in
    kept_any _ _ _ _ (λ n. not (has n (view_rows c.args.gone))) (k.kept _ (λ x b t. search (not_in, rules))) _ _ _ _ (search rules) c.keep.auto.items k.within k.rest refl (λ n. refl)
