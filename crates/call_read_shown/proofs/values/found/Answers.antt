-- `found` meets its contract.
use borrow.Author.Rules.{rules}
use borrow.Author.Tests.{tests}
use mathlib.Core.Path.{◌≡◌, refl, sym}
use mathlib.Core.Bool.{true, false}
use mathlib.Core.List.{[]}
use lib.Dec.{eqb}
use denote.Ref.{Bor}
use Rattle.std.specs.Prelude.{Option, Some, None, MatchOption, IfSome, option_copied}
use Rattle.rules.specs.Tables as M
use Rattle.lists.proofs.Iterators.{Shown, shown_used, shown_some, shown_none, find_form}
use Rattle.cache.specs.cached.View.{view_cached}
use Rattle.cache.specs.cached.Form.{cached_form, is_blank_cached}
use Rattle.cache.specs.declared.cached.Cached.{Cached}
use Rattle.cache.specs.View.{view_cache}
use Rattle.cache.specs.Form.{cache_form}
use Rattle.call_read_shown.specs.values.Shown.{cached_at}
use Rattle.call_read_shown.proofs.values.found.Goals as goal

pub returns-clause-shows : goal.returns-clause-shows
unfolding view_cached view_cache cached_at
returns-clause-shows c = rw c.copied.ensures (go c.find.result refl)
  where
    m : Shown view_cached c.iter.result (view_cache c.args.cache)
    m = shown_used _ _ c.iter.ensures.rest c.used.ensures

    go : (r : Option (Bor Cached)) → c.find.result ≡ r → MatchOption (option_copied r) (M.is_cached c.args.k (view_cache c.args.cache) ≡ false) (λ x. (M.is_cached c.args.k (view_cache c.args.cache) ≡ true) × (view_cached x ≡ cached_at c.args.k (view_cache c.args.cache)))
    go None e = sym (shown_none _ (λ x. eqb c.args.k x.key) (λ x. true) false c.find.ensures.ran e m refl (λ x b f j. search (rules, tests)))
    go (Some y) e = (
      sym (shown_some _ (λ x. eqb c.args.k x.key) (λ x. true) false y c.find.ensures.ran e m refl (λ x b f j. search (rules, tests))),
      shown_some _ (λ x. eqb c.args.k x.key) (λ x. x) (record { key = c.args.k; fields = [] }) y c.find.ensures.ran e m refl (λ x b f j. search (rules, tests)),
    )

pub returns-clause-form : goal.returns-clause-form
unfolding cache_form
returns-clause-form c = λ h. rw c.copied.ensures (go h c.find.result refl)
  where
    go : cache_form c.args.cache ≡ true → (r : Option (Bor Cached)) → c.find.result ≡ r → IfSome (option_copied r) (λ x. cached_form x ≡ true)
    go h None e = tt
    go h (Some y) e = find_form (λ x. eqb c.args.k x.key) _ 16 cached_form is_blank_cached _ _ y c.find.ensures.ran e c.iter.ensures.rest c.used.ensures (λ x b f j. search (rules, tests)) h
