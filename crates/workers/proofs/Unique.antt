-- Two values in form that show the same are equal.
use Prim.Native.Nat.{ℕ}
use mathlib.Core.Path.{◌≡◌, sym, ◌∙◌, ap}
use mathlib.Core.Bool.{Bool, true, false, not, ◌&&◌}
use mathlib.Core.Option.{Option, none, some}
use mathlib.Core.List.{List}
use lib.Dec.{eqb}
use borrow.Author.Tests.{eqb-true, not-true}
use Rattle.rules.specs.Tables as M
use Rattle.rules.proofs.Laws.{by_case, and_true}
use Rattle.lists.proofs.Forms.{array_same}
use Rattle.workers.specs.View.{view_hand, view_hands, owner_of, view_queue}
use Rattle.workers.specs.Form.{hand_form, hands_form, queue_form}
use Rattle.workers.specs.declared.Hand.{Hand}
use Rattle.workers.specs.declared.Hands.{Hands}
use Rattle.workers.specs.declared.Queue.{Queue}
use Rattle.workers.proofs.HandLaws.{handed_full, full_is, replied_full}
use Rattle.workers.proofs.QueueLaws.{leased_is}

-- ── hands ──
-- what an empty hand in form holds
blank_hand : (h : Hand) → h.full ≡ false → hand_form h ≡ true → (h.replied ≡ false) × (h.number ≡ 0)
unfolding hand_form
blank_hand h e f = let g = and_true (not h.replied) (eqb h.number 0) (rw e at f) in (not-true h.replied g.0, eqb-true h.number 0 g.1)

pub hand_unique : (a b : Hand) → hand_form a ≡ true → hand_form b ≡ true → view_hand a ≡ view_hand b → a ≡ b
hand_unique a b f g e =
    by_case a.full
    (λ t. made (replied_full a t ∙ ap M.replied e ∙ sym (replied_full b (sym same ∙ t))) (handed_full a t ∙ ap M.handed e ∙ sym (handed_full b (sym same ∙ t))))
    (λ t. let x = blank_hand a t f in let y = blank_hand b (sym same ∙ t) g in made (x.0 ∙ sym y.0) (x.1 ∙ sym y.1))
  where
    same : a.full ≡ b.full
    same = full_is a ∙ ap M.full e ∙ sym (full_is b)

    made : a.replied ≡ b.replied → a.number ≡ b.number → a ≡ b
    made p q = λ i. record { full = same i; replied = p i; number = q i }

pub hands_unique : (a b : Hands) → hands_form a ≡ true → hands_form b ≡ true → view_hands a ≡ view_hands b → a ≡ b
unfolding view_hands hands_form
hands_unique a b f g e = ap (λ (x : List Hand). record { all = x }) (array_same 4 hand_form view_hand M.empty none hand_unique a.all b.all f g (λ i. ap (λ (v : ℕ → M.Hand). v i) e))
  where
    none : Hand
    none = record { full = false; replied = false; number = 0 }

-- ── the queue lease ──
abbrev since : M.Queue → ℕ
since M.idle = 0
since (M.leased o t) = t

abbrev owner : M.Queue → Option ℕ
owner M.idle = none
owner (M.leased o t) = o

abbrev is_some : Option ℕ → Bool
is_some none = false
is_some (some n) = true

abbrev or_zero : Option ℕ → ℕ
or_zero none = 0
or_zero (some n) = n

-- what a lease in form is, from what it shows
queue_since : (q : Queue) → queue_form q ≡ true → q.since ≡ since (view_queue q)
unfolding view_queue queue_form
queue_since q f = by_case q.live (λ t. rw t) (λ t. rw t (eqb-true q.since 0 (and_true (not q.owned && eqb q.owner 0) (eqb q.since 0) (rw t at f)).1))

queue_owned : (q : Queue) → queue_form q ≡ true → q.owned ≡ is_some (owner (view_queue q))
unfolding view_queue queue_form owner_of
queue_owned q f =
    by_case q.live (λ t. rw t (by_case q.owned (λ u. rw u) (λ u. rw u)))
    (λ t. rw t (not-true q.owned (and_true (not q.owned) (eqb q.owner 0) (and_true (not q.owned && eqb q.owner 0) (eqb q.since 0) (rw t at f)).0).0))

queue_owner : (q : Queue) → queue_form q ≡ true → q.owner ≡ or_zero (owner (view_queue q))
unfolding view_queue queue_form owner_of
queue_owner q f =
    by_case q.live (λ t. rw t (by_case q.owned (λ u. rw u) (λ u. rw u (eqb-true q.owner 0 (rw (t, u) at f)))))
    (λ t. rw t (eqb-true q.owner 0 (and_true (not q.owned) (eqb q.owner 0) (and_true (not q.owned && eqb q.owner 0) (eqb q.since 0) (rw t at f)).0).1))

pub queue_unique : (a b : Queue) → queue_form a ≡ true → queue_form b ≡ true → view_queue a ≡ view_queue b → a ≡ b
queue_unique a b f g e = λ i. record { live = live i; owned = owned i; owner = own i; since = when i }
  where
    live : a.live ≡ b.live
    live = leased_is a ∙ ap M.is_leased e ∙ sym (leased_is b)

    owned : a.owned ≡ b.owned
    owned = queue_owned a f ∙ ap (λ q. is_some (owner q)) e ∙ sym (queue_owned b g)

    own : a.owner ≡ b.owner
    own = queue_owner a f ∙ ap (λ q. or_zero (owner q)) e ∙ sym (queue_owner b g)

    when : a.since ≡ b.since
    when = queue_since a f ∙ ap since e ∙ sym (queue_since b g)
