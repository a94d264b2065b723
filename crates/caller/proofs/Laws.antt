-- The plant after a session's end.
use mathlib.Core.Path.{◌≡◌, refl, sym}
use mathlib.Core.Bool.{true}
use mathlib.Core.Option.{some}
use Prim.Native.Nat.{ℕ}
use lib.IntN.{ℤ}
use mir.Syntax.{w64}
use mir.Val.{SFits}
use Rattle.rules.specs.Values.{nat_of}
use Rattle.rules.specs.Tables.{freed}
use Rattle.rules.specs.Step.{ending}
use Rattle.arguments.specs.Numbers.{session_number}
use Rattle.arguments.proofs.Numbers.{held}
use Rattle.sessions.specs.View.{view_sessions}
use Rattle.sessions.specs.declared.Sessions.{Sessions}
use Rattle.plant.specs.View.{view_plant, kept_plant}
use Rattle.plant.specs.With.{with_sessions}
use Rattle.plant.specs.declared.Plant.{Plant}
use Rattle.plant.proofs.PlantLaws.{kept_parts}
use Rattle.promises.proofs.Numbers.{freed_is}

module _ (p : Plant) (t : Sessions) where
  pub ended_shows : (z : ℤ) → SFits w64 z → (n : ℕ) → n ≡ session_number (held z)
      → view_sessions t ≡ freed n (view_sessions p.sessions) → kept_plant p ≡ true → view_plant (with_sessions p t) ≡ ending (some (nat_of z)) (view_plant p)
  unfolding view_plant
  ended_shows z fits n e s k =
      rw (s, sym (freed_is (view_plant p) (kept_parts p k) z fits n e)) refl
