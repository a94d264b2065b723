-- `made` meets its contract.
use mathlib.Core.Path.{◌≡◌, refl}
use mathlib.Core.Bool.{true}
use lib.IntN.{pos}
use borrow.Author.Rules.{rules}
use Rattle.keys.specs.declared.Place.{Place}
use Rattle.changes.specs.Form.{is_used}
use Rattle.call_change.proofs.Left.{made_is, made_used}
use Rattle.call_change.proofs.made.Goals as goal

pub returns-clause-shows : goal.returns-clause-shows
returns-clause-shows c = search (made_is, rules)

used : (q : Place) → is_used (record { place = q; kind = 1; value = pos 0 }) ≡ true
unfolding is_used
used q = refl

pub returns-clause-form : goal.returns-clause-form
returns-clause-form c = made_used c.update.result _ _ c.unwrap_or.ensures (used _) c.update.ensures.form
