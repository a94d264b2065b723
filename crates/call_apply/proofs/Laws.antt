-- What apply tells, answers, carries and leaves, one law for each way out.
use mathlib.Core.Path.{◌≡◌, refl, sym, ◌∙◌, ap, subst}
use mathlib.Core.Bool.{Bool, true, false, cond, not, ◌&&◌, ◌||◌, true≢false}
use mathlib.Core.List.{List, [], ◌∷◌}
use Prim.Native.Nat.{ℕ, ◌≤◌, ◌<◌}
use lib.Dec.{eqb, leb, ltb}
use lib.IntN.{ℤ}
use lib.ListN.{length}
use mir.Syntax.{w64}
use mir.Val.{SFits}
use mir.Facts.{to_z-of_z}
use borrow.Author.Tests.{le-leb, lt-leb, not-false}
use Rattle.std.specs.Prelude.{Result, Ok, Err}
use Rattle.std.specs.Result.{result_unwrap_or}
use Rattle.rules.specs.Limits.{worker_count, change_limit, row_limit}
use Rattle.rules.specs.Lists.{all, has, is_empty, override, pushed, same_case}
use Rattle.rules.specs.Values.{below, nat_of}
use Rattle.rules.specs.Changes.{update_ok, follow}
use Rattle.rules.specs.Refusals.{out_of_range, wrong_hand, store_away, rows_full, ◌⇒◌, first}
use Rattle.rules.specs.Tables as M
use Rattle.rules.specs.Tables.{holds, full, replied, handed, batch_of, with_hand}
use Rattle.rules.specs.Calls.{Apply, refused, fine, fate_of, fate_number, arrives, reply_number}
use Rattle.rules.specs.Calls as C
use Rattle.rules.specs.Conditions.{conditions, good_fate, no_room}
use Rattle.rules.specs.Effects.{applied, carried, reply_to}
use Rattle.rules.specs.Kept.{good_number, batch_ok}
use Rattle.rules.specs.Step.{accepted}
use Rattle.rules.proofs.Laws.{by_case, and_true, not_met}
use Rattle.rules.proofs.Tests.{all_head, all_tail}
use Rattle.rules.proofs.KeptTest.{kept_iff}
use Rattle.answers.specs.View.{view_refusal, is_refused}
use Rattle.answers.specs.declared.Refusal.{Refusal}
use Rattle.answers.specs.declared.Refusal.TheVariants.{OutOfRange}
use Rattle.promises.specs.Promise.{result, Performs}
use Rattle.promises.proofs.Worker.{hand_at}
use Rattle.promises.proofs.Telling.{refuses, accepts, none_held, left_accepted}
use Rattle.arguments.specs.Numbers.{index_number}
use Rattle.arguments.proofs.Numbers.{held, outside, inside, index_is, index_lt}
use Rattle.changes.specs.View.{view_changes}
use Rattle.changes.specs.declared.Changes.{Changes}
use Rattle.store.specs.View.{ranged, view_store, store_form}
use Rattle.store.specs.declared.Store.{Store}
use Rattle.store.proofs.StoreLaws.{view_ranged, follow_within, ok_within}
use Rattle.rows.specs.View.{view_rows, rows_form}
use Rattle.rows.specs.declared.Rows.{Rows}
use Rattle.workers.specs.View.{view_hand, view_hands}
use Rattle.workers.specs.Form.{hand_form, hands_form}
use Rattle.workers.specs.declared.Hand.{Hand}
use Rattle.workers.specs.declared.Hands.{Hands}
use Rattle.buffer.specs.View.{view_buffer}
use Rattle.plant.specs.View.{view_plant, kept_plant, plant_form}
use Rattle.plant.specs.declared.Plant.{Plant}
use Rattle.plant.proofs.Formed.{form_with_store, form_with_rows, form_with_hands}
use Rattle.call_apply.specs.Told.{view_fate, FateOf, no_row_for, told}
use Rattle.call_apply.specs.Left.{left}
use Rattle.call_apply.specs.declared.Fate.{Fate}
use Rattle.call_apply.specs.declared.Fate.TheVariants.{Arrives, Lost, Unreached}
use Rattle.call_apply.specs.declared.Left.{Left}

-- ── the hand ──
waits-not : (h : M.Hand) → not (full h) || replied h ≡ not (full h && not (replied h))
waits-not M.empty = refl
waits-not (M.holds n true) = refl
waits-not (M.holds n false) = refl

-- ── what is answered ──
pub no_fate : (p : Plant) (z y : ℤ) (lent : List ℤ) (fy : SFits w64 y) → below z worker_count ≡ true → good_fate (held y) ≡ false → (r : Refusal) → r ≡ OutOfRange
    → refused (view_refusal r) ≡ (result (Apply z y) lent p).answer
unfolding conditions ◌⇒◌
no_fate p z y lent fy l g r e = rw e (refuses (Apply z y) lent (view_plant p) _ (rw (l, ap good_fate (sym (to_z-of_z fy)), g) refl))

module _ (p : Plant) (z y : ℤ) (fz : SFits w64 z) (w : ℕ) (ew : w ≡ index_number (held z) worker_count) (lent : List ℤ) (kept : kept_plant p ≡ true) where
  abbrev Answered : C.Answer → Type 0
  Answered a = a ≡ (result (Apply z y) lent p).answer

  pub no_worker : worker_count ≤ w → Answered (refused out_of_range)
  unfolding conditions ◌⇒◌
  no_worker l = refuses (Apply z y) lent (view_plant p) _ (rw (outside z fz worker_count w ew l) refl)

  module _ (lw : w < worker_count) (fy : SFits w64 y) where
    module _ (gf : good_fate (held y) ≡ true) (h : Hand) (eh : view_hand h ≡ view_hands p.hands w) (b : Bool) (eb : b ≡ full (view_hand h) && not (replied (view_hand h))) where
      in_range_lem : below z worker_count && good_fate y ≡ true
      in_range_lem = rw (inside z fz worker_count w ew lw, ap good_fate (sym (to_z-of_z fy)), gf) refl

      hand_is : view_hands p.hands (nat_of z) ≡ view_hand h
      hand_is = hand_at p.hands z fz w ew lw h eh

      waits : not (full (view_hands p.hands (nat_of z))) || replied (view_hands p.hands (nat_of z)) ≡ not b
      waits = waits-not (view_hands p.hands (nat_of z)) ∙ rw (hand_is, ← eb) refl

      pub not_waiting : b ≡ false → Answered (refused wrong_hand)
      unfolding conditions view_plant ◌⇒◌
      not_waiting g = refuses (Apply z y) lent (view_plant p) _ (rw (in_range_lem, waits, g) refl)

      module _ (g : b ≡ true) where
        pub away : p.near ≡ false → Answered (refused store_away)
        unfolding conditions view_plant ◌⇒◌
        away k = refuses (Apply z y) lent (view_plant p) _ (rw (in_range_lem, waits, g, k) refl)

        module _ (k : p.near ≡ true) (n : ℕ) (en : n ≡ handed (view_hand h)) where
          handed_is : handed (view_hands p.hands (nat_of z)) ≡ n
          handed_is = ap handed hand_is ∙ sym en

          last : (c : Bool) → same_case fate_number (fate_of y) arrives && no_room (nat_of z) (view_plant p) ≡ c → first (conditions (Apply z y) lent (view_plant p)) ≡ first ((c ⇒ rows_full) ∷ [])
          unfolding conditions view_plant ◌⇒◌
          last c e = rw (e, in_range_lem, waits, g, k) refl

          room_is : no_room (nat_of z) (view_plant p) ≡ no_row_for (view_rows p.rows) n
          unfolding view_plant
          room_is = rw handed_is refl

          told_by : (v : C.Fate) → fate_of y ≡ v → Answered (told (view_rows p.rows) n v)
          unfolding view_plant ◌⇒◌ accepted
          told_by C.arrives e =
              by_case (no_row_for (view_rows p.rows) n)
              (λ t. rw t (refuses (Apply z y) lent (view_plant p) _ (last true (rw (e, room_is, t) refl))))
              (λ t. let r : cond (has n (view_rows p.rows)) C.done_before C.done ≡ reply_to (fate_of y) (nat_of z) (view_plant p) = rw (e, handed_is) refl in
              rw t (ap (λ x. fine (reply_number x ∷ [])) r ∙ accepts (Apply z y) lent (view_plant p) (last false (rw (e, room_is, t) refl))))
          told_by C.lost e = let a = accepts (Apply z y) lent (view_plant p) (last false (rw e refl)) in rw e at a
          told_by C.unreached e = let a = accepts (Apply z y) lent (view_plant p) (last false (rw e refl)) in rw e at a

          pub sent : (f : Fate) → view_fate f ≡ fate_of (held y) → (a : C.Answer) → a ≡ told (view_rows p.rows) n (view_fate f) → Answered a
          sent f ef a ea = ea ∙ told_by (view_fate f) (ap fate_of (sym (to_z-of_z fy)) ∙ sym ef)

-- ── the changes and the row ──
updates_ok : (next n : ℕ) (l : List M.Batch) → all (batch_ok next) l ≡ true → all update_ok (batch_of n l) ≡ true
updates_ok next n [] a = refl
updates_ok next n (b ∷ l) a =
    by_case (eqb n b.number)
    (λ e. rw e (and_true (good_number next b.number && not (is_empty b.changes) && leb (length b.changes) change_limit) (all update_ok b.changes) (all_head (batch_ok next) b l a)).1)
    (λ e. rw e (updates_ok next n l (all_tail (batch_ok next) b l a)))

module _ (p : Plant) (n : ℕ) where
  abbrev Carries : Plant → Type 0
  Carries q = kept_plant p ≡ true → view_plant q ≡ cond (no_row_for (view_rows p.rows) n) (view_plant p) (carried n (view_plant p))

  pub row_there_lem : (b : Bool) → b ≡ has n (view_rows p.rows) → b ≡ true → Carries p
  unfolding view_plant carried
  row_there_lem b eb h kept = rw (← eb, h) (by_case (leb row_limit (length (view_rows p.rows))) (λ t. rw t refl) (λ t. rw t refl))

  module _ (m : ℕ) (em : m ≡ length (view_rows p.rows)) where
    pub no_room_lem : row_limit ≤ m → Carries p
    no_room_lem l kept =
        by_case (has n (view_rows p.rows)) (λ t. row_there_lem _ refl t kept) (λ t. rw (t, ← em, le-leb row_limit m l) refl)

    module _ (l : m < row_limit) (b : Bool) (eb : b ≡ has n (view_rows p.rows)) (h : b ≡ false) (cs : Changes) (ec : view_changes cs ≡ batch_of n (view_buffer p.buffer))
        (s : Store) (es : view_store s ≡ ranged (follow (view_store p.store) (view_changes cs))) (r : Rows) (er : view_rows r ≡ pushed row_limit (view_rows p.rows) n) where
      stored : kept_plant p ≡ true → view_store s ≡ follow (view_store p.store) (batch_of n (view_buffer p.buffer))
      unfolding kept_plant view_plant
      stored kept =
          let k = (kept_iff (view_plant p)).0 (and_true (plant_form p) _ kept).1 in
          es ∙ rw ec (follow_within (batch_of n (view_buffer p.buffer)) (view_store p.store) (view_ranged p.store) (ok_within (batch_of n (view_buffer p.buffer)) (updates_ok p.next n (view_buffer p.buffer) k.buffer.ok)))

      pub both_there : Carries (left p (record { store = s; rows = r; hands = p.hands }))
      unfolding view_plant carried
      both_there kept = rw (stored kept, er, ← em, lt-leb row_limit m l, ← eb, h) refl

      pub both_form : (store_form p.store ≡ true → store_form s ≡ true) → (rows_form p.rows ≡ true → rows_form r ≡ true) → plant_form p ≡ true
          → plant_form (left p (record { store = s; rows = r; hands = p.hands })) ≡ true
      both_form fs fr f = form_with_rows _ r fr (form_with_store p s fs f)

-- ── the plant left ──
only_lost : (f : Fate) → (f ≡ Unreached → ⊥) → (f ≡ Arrives → ⊥) → f ≡ Lost
only_lost Arrives u a = absurd (a refl)
only_lost Lost u a = refl
only_lost Unreached u a = absurd (u refl)

module _ (p : Plant) (z y : ℤ) (fy : SFits w64 y) (o : Result Fate Refusal) (gf : FateOf (held y) o) (f : Fate) (ef : f ≡ result_unwrap_or o Unreached) where
  fate_is : good_fate y ≡ true → fate_of y ≡ view_fate f
  fate_is t = go o (subst (λ (x : ℤ). FateOf x o) (to_z-of_z fy) gf) ef
    where
      go : (o : Result Fate Refusal) → FateOf y o → f ≡ result_unwrap_or o Unreached → fate_of y ≡ view_fate f
      go (Ok x) g e = sym (ap view_fate e ∙ g.1)
      go (Err x) g e = absurd (true≢false (sym t ∙ g.0))

  -- what is known of an accepted call
  record Known (lent : List ℤ) : Type 0 where
    worker : below z worker_count ≡ true
    fate : fate_of y ≡ view_fate f
    room : same_case fate_number (fate_of y) arrives && no_room (nat_of z) (view_plant p) ≡ false
    leaves : (q : M.Plant) → q ≡ applied (fate_of y) (nat_of z) (view_plant p) → q ≡ (result (Apply z y) lent p).plant

  known : (lent : List ℤ) → is_refused (result (Apply z y) lent p).answer ≡ false → Known lent
  unfolding conditions accepted
  known lent h =
      let m = none_held (Apply z y) lent (view_plant p) _ refl h in
      let g = and_true (below z worker_count) (good_fate y) (not-false _ (not_met _ out_of_range m.0)) in
      record {
        worker = g.0;
        fate = fate_is g.1;
        room = not_met _ rows_full m.1.1.1.0;
        leaves = λ q e. e ∙ left_accepted (Apply z y) lent (view_plant p) m;
      }

  pub not_sent : f ≡ Unreached → Performs (Apply z y) p p
  unfolding applied
  not_sent e kept lent h = let k = known lent h in k.leaves (view_plant p) (rw (k.fate, e) refl)

  module _ (fz : SFits w64 z) (w : ℕ) (ew : w ≡ index_number (held z) worker_count)
      (hand : Hand) (eh : view_hand hand ≡ view_hands p.hands w) (n : ℕ) (en : n ≡ handed (view_hand hand))
      (t : Left) (et : kept_plant p ≡ true → view_plant (left p t) ≡ cond (no_row_for (view_rows p.rows) n) (view_plant p) (carried n (view_plant p))) where
    handed_at : below z worker_count ≡ true → n ≡ handed (view_hands p.hands (nat_of z))
    handed_at g = en ∙ ap handed eh ∙ rw (index_is z fz worker_count w ew g) refl

    pub reply_lost : (f ≡ Unreached → ⊥) → (f ≡ Arrives → ⊥) → Performs (Apply z y) p (left p t)
    unfolding applied view_plant
    reply_lost u a kept lent h =
        let k = known lent h in
        let e = only_lost f u a in
        k.leaves _ (et kept ∙ rw (k.fate, e, handed_at k.worker) refl)

    module _ (e : f ≡ Arrives) (heard : Hand) (er : view_hand heard ≡ holds (handed (view_hand hand)) true)
        (hs : Hands) (ehs : view_hands hs ≡ cond (ltb w worker_count) (override (view_hands t.hands) w (view_hand heard)) (view_hands t.hands)) where
      abbrev heard_too : Left
      heard_too = record { store = t.store; rows = t.rows; hands = hs }

      put : below z worker_count ≡ true → view_plant (left p heard_too) ≡ with_hand (nat_of z) (holds n true) (view_plant (left p t))
      unfolding view_plant
      put g = rw (ehs, index_lt z fz worker_count w ew g, er, sym en, sym (index_is z fz worker_count w ew g)) refl

      pub reply_heard : Performs (Apply z y) p (left p heard_too)
      unfolding applied view_plant
      reply_heard kept lent h =
          let k = known lent h in
          let o : no_row_for (view_rows p.rows) n ≡ false = rw (handed_at k.worker) (rw (k.fate, e) at k.room) in
          let c : view_plant (left p t) ≡ carried n (view_plant p) = et kept ∙ rw o refl in
          k.leaves _ (put k.worker ∙ ap (with_hand (nat_of z) (holds n true)) c ∙ rw (k.fate, e, handed_at k.worker) refl)

      pub reply_form : (plant_form p ≡ true → plant_form (left p t) ≡ true) → (hands_form t.hands ≡ true → hand_form heard ≡ true → hands_form hs ≡ true) → hand_form heard ≡ true → plant_form p ≡ true
          → plant_form (left p heard_too) ≡ true
      reply_form ft fh ff f = form_with_hands (left p t) hs (λ x. fh x ff) (ft f)
