-- What a call leaves in the loop: its session ends, nothing changes, or the tables are written that it writes.
use mathlib.Core.Path.{◌≡◌, refl, sym, ◌∙◌, subst}
use mathlib.Core.Bool.{Bool, true, false, true≢false}
use Rattle.rules.specs.Step.{session_of, ending}
use Rattle.sessions.specs.declared.Sessions.{Sessions}
use Rattle.plant.specs.View.{view_plant, plant_form, kept_plant}
use Rattle.plant.specs.With.{with_sessions}
use Rattle.plant.specs.declared.Plant.{Plant}
use Rattle.answers.specs.View.{view_answer, is_refused, is_ending}
use Rattle.std.specs.Prelude.{Result}
use Rattle.answers.specs.declared.Answer.{Answer}
use Rattle.answers.specs.declared.Refusal.{Refusal}
use Rattle.calls.specs.View.{view_call}
use Rattle.calls.specs.declared.Call.{Call}
use Rattle.promises.specs.Promise.{Performs}
use Rattle.promises.proofs.Leaving.{stays, ends}
use Rattle.promises.proofs.Keeping.{and_keeps, performed}
use Rattle.entry.specs.Refused.{RefusalLeaves}
use Rattle.entry.proofs.Asked.{Done}

-- ── what a refusal leaves of any plant ──
module _ (p : Plant) (a : Result Answer Refusal) (e : Bool) (ee : e ≡ is_ending (view_answer a)) where
  leaves_others : e ≡ true → (t : Sessions) → RefusalLeaves p a (with_sessions p t)
  leaves_others h t = record { unchanged = λ r n. absurd (true≢false (sym h ∙ ee ∙ n)); others = λ n. refl }

  module _ (h : e ≡ false) where
    leaves_all : RefusalLeaves p a p
    leaves_all = record { unchanged = λ r n. refl; others = λ n. refl }

    was_accepted : (r : Bool) → r ≡ is_refused (view_answer a) → r ≡ false → (q : Plant) → RefusalLeaves p a q
    was_accepted r er g q = record { unchanged = λ i n. absurd (true≢false (sym i ∙ sym er ∙ g)); others = λ n. absurd (true≢false (sym n ∙ sym ee ∙ h)) }

-- ── with all that is promised of it ──
module _ (c : Call) (p : Plant) (a : Result Answer Refusal) (e : Bool) (ee : e ≡ is_ending (view_answer a)) where
  pub done_ended : e ≡ true → (t : Sessions) → (kept_plant p ≡ true → view_plant (with_sessions p t) ≡ ending (session_of (view_call c)) (view_plant p)) × (plant_form p ≡ true → plant_form (with_sessions p t) ≡ true) → Done c p a (with_sessions p t)
  done_ended h t f = (leaves_others p a e ee h t, and_keeps (view_call c) p (with_sessions p t) a (ends (view_call c) p a e ee h (with_sessions p t) f.0) f.1)

  module _ (g : e ≡ false) (r : Bool) (er : r ≡ is_refused (view_answer a)) where
    pub done_nothing : r ≡ true → Done c p a p
    done_nothing h = (leaves_all p a e ee g, and_keeps (view_call c) p p a (stays (view_call c) p a e ee r er g h) (λ f. f))

    pub done_by : r ≡ false → (y : Call) → c ≡ y → (q : Plant) → Performs (view_call y) p q × (plant_form p ≡ true → plant_form q ≡ true) → Done c p a q
    done_by h y ey q f =
        let x = subst (λ z. Performs (view_call z) p q × (plant_form p ≡ true → plant_form q ≡ true)) (sym ey) f in
        (was_accepted p a e ee g r er h q, performed (view_call c) p q a r er h x.0 x.1)
