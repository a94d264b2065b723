-- `Key::len` meets its contract.
use Rattle.std.proofs.Common.{◌≡◌, ◌∙◌, length, min, arith, ap, sym}
use Rattle.std.proofs.lemmas.List.{length-map}
use Rattle.lists.proofs.Loops.{length_mapped}
use Rattle.lists.proofs.Views.{counted-length}
use Rattle.keys.specs.View.{view_key, view_place}
use Rattle.keys.proofs.Key.len.Goals as goal

pub overflow_cast-result : goal.overflow_cast-result
unfolding view_key
overflow_cast-result c = let e : length c.shown.result.now ≡ min c.args.self.count 4 = sym (length-map _ view_place) ∙ ap length c.shown.ensures ∙ counted-length _ _ _ _ (search length_mapped) in omega arith
