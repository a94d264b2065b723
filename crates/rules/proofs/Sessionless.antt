-- Calls without a session meet neither 3 nor 4.
use Prim.Native.Nat.{ℕ}
use native.Mathlib.Omega.{arith}
use mathlib.Core.Path.{◌∙◌, ◌≡◌, ap, refl, sym}
use mathlib.Core.Bool.{Bool, false, not, true≢false}
use mathlib.Core.Option.{Option, none, some}
use mathlib.Core.List.{List}
use lib.IntN.{ℤ}
use borrow.Author.Tests.{not-true}
use Rattle.rules.specs.Refusals.{Refusal, was_doomed, exclusive_elsewhere, ends_session}
use Rattle.rules.specs.Tables.{Plant}
use Rattle.rules.specs.Calls.{Call, Load, Map, Begin, Read, Change, Commit, Abandon, Advance, Take, Apply, Delete, Cut, Sweep, Store, Report}
use Rattle.rules.specs.Conditions.{conditions}
use Rattle.rules.specs.Step.{session_of}
use Rattle.rules.specs.Claims.{Spares, SparesSessions}
use Rattle.rules.proofs.Steps.{refused-first, refusals_leave_lem}
use Rattle.rules.proofs.Refused.{AllPass, pass, change-passes, first_passes}

-- the refusal does not end a session
abbrev spared : Refusal → Bool
spared r = not (ends_session r)

spares : (c : Call) → ((lent : List ℤ) (p : Plant) → AllPass spared (conditions c lent p)) → Spares c
spares c a lent p r h =
    let e : ends_session r ≡ false = not-true (ends_session r) (first_passes spared (conditions c lent p) r (a lent p) (refused-first c lent p r h)) in
    let n : r ≡ was_doomed → ⊥ = λ q. true≢false (ap ends_session (sym q) ∙ e) in
    let m : r ≡ exclusive_elsewhere → ⊥ = λ q. true≢false (ap ends_session (sym q) ∙ e) in
    (n, m, refusals_leave_lem c lent p r h n m)

pub spares_sessions_lem : SparesSessions
unfolding conditions
spares_sessions_lem =
    record {
      load = λ d f k v. spares (Load d f k v) (λ lent p. (pass spared _ _ refl, (pass spared _ _ refl, (pass spared _ _ refl, (change-passes spared refl refl refl _ _, tt)))));
      map = λ k n m. spares (Map k n m) (λ lent p. (pass spared _ _ refl, (pass spared _ _ refl, (pass spared _ _ refl, (pass spared _ _ refl, tt)))));
      begin = spares Begin (λ lent p. (pass spared _ _ refl, (pass spared _ _ refl, tt)));
      advance = λ n. spares (Advance n) (λ lent p. (pass spared _ _ refl, (pass spared _ _ refl, tt)));
      take = λ w. spares (Take w) (λ lent p. (pass spared _ _ refl, (pass spared _ _ refl, (pass spared _ _ refl, (pass spared _ _ refl, tt)))));
      apply = λ w fate. spares (Apply w fate) (λ lent p. (pass spared _ _ refl, (pass spared _ _ refl, (pass spared _ _ refl, (pass spared _ _ refl, tt)))));
      delete = λ w. spares (Delete w) (λ lent p. (pass spared _ _ refl, (pass spared _ _ refl, tt)));
      cut = λ w. spares (Cut w) (λ lent p. (pass spared _ _ refl, tt));
      sweep = spares Sweep (λ lent p. (pass spared _ _ refl, tt));
      store = λ n. spares (Store n) (λ lent p. (pass spared _ _ refl, tt));
    }

some-none : {n : ℕ} → ◌≡◌ {A = Option ℕ} (some n) none → ⊥
some-none e = let z : ◌≡◌ {A = ℕ} 0 1 = cc in omega arith

-- by the call's own word
pub no_session_lem : (c : Call) → session_of c ≡ none → Spares c
no_session_lem (Load d f k v) e = spares_sessions_lem.load d f k v
no_session_lem (Map k n m) e = spares_sessions_lem.map k n m
no_session_lem Begin e = spares_sessions_lem.begin
no_session_lem (Read s k) e = absurd (some-none e)
no_session_lem (Change s d f k v) e = absurd (some-none e)
no_session_lem (Commit s) e = absurd (some-none e)
no_session_lem (Abandon s) e = absurd (some-none e)
no_session_lem (Advance n) e = spares_sessions_lem.advance n
no_session_lem (Take w) e = spares_sessions_lem.take w
no_session_lem (Apply w fate) e = spares_sessions_lem.apply w fate
no_session_lem (Delete w) e = spares_sessions_lem.delete w
no_session_lem (Cut w) e = spares_sessions_lem.cut w
no_session_lem Sweep e = spares_sessions_lem.sweep
no_session_lem (Store n) e = spares_sessions_lem.store n
no_session_lem (Report s) e = absurd (some-none e)
