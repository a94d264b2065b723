-- Demand 3 of lines: a line that says a call is a turn of the rules, so the rules' theorem speaks of them all.
use Prim.Native.Nat.{ℕ}
use mathlib.Core.Path.{◌≡◌, refl, sym, subst}
use mathlib.Core.List.{List, [], ◌++◌, ◌∷◌}
use Rattle.rules.specs.Lists.{InOrder}
use Rattle.rules.specs.Tables.{keys_of, Plant}
use Rattle.rules.specs.History.{whole, World, turn, turns, initial, exchanges}
use Rattle.rules.specs.CacheOrder.{read_order}
use Rattle.rules.specs.RowOrder.{applied_order}
use Rattle.rules.specs.Demand3.{FirstPart}
use Rattle.rules.specs.Pulls.{LacksAll, loads_of}
use Rattle.rules.proofs.Demand3.{demand3}
use Rattle.rules.proofs.CacheOrder.{in_read_order_lem}
use Rattle.rules.proofs.RowOrder.{applied_once_lem, in_applied_order_lem}
use Rattle.rules.proofs.Pulls.{reads_lack_lem, store_lacks_lem}
use Rattle.line_format.specs.Lines.{Said, says, faulty, said}
use Rattle.line_format.specs.Serving.{lent_words, performed, serve, served}
use Rattle.line_format.specs.Demand3.{turns_of_line, turns_of, LinesHold}

-- from any plant on, and whatever was noted
leaves : (ls : List (List ℕ)) (w : World) → (served ls w.plant).plant ≡ (turns (turns_of ls) w).plant
unfolding serve
leaves [] w = refl
leaves (l ∷ ls) w = go (leaves ls) (said l)
  where
    go : ((v : World) → (served ls v.plant).plant ≡ (turns (turns_of ls) v).plant)
        → (x : Said) → (served ls (performed x w.plant).plant).plant ≡ (turns (turns_of_line x ++ turns_of ls) w).plant
    go rest (says c) = rest (turn (record { call = c; lent = lent_words }) w)
    go rest (faulty r) = rest w

pub lines_hold : LinesHold
unfolding initial
lines_hold ls =
    let e = leaves ls initial in
    record {
      leaves = e;
      holds = demand3 (turns_of ls);
      cache_order = subst (λ (z : Plant). InOrder (keys_of z.cache) (read_order (turns_of ls))) (sym e) (in_read_order_lem (turns_of ls));
      applied_once = applied_once_lem (turns_of ls);
      row_order = subst (λ (z : Plant). InOrder z.rows (applied_order (turns_of ls))) (sym e) (in_applied_order_lem (turns_of ls));
      reads_lack = reads_lack_lem (turns_of ls);
      store_lacks = subst (λ (z : Plant). (part : FirstPart (turns (turns_of ls) initial).history z.store) → LacksAll (loads_of (exchanges (turns_of ls) initial.plant) ++ whole part.done) z.store) (sym e) (store_lacks_lem (turns_of ls));
    }
