-- Demand 3 of the code: a list of calls through the entry is a list of the rules' turns, so the rules' theorem speaks of it.
use mathlib.Core.Path.{◌≡◌, refl, sym, ◌∙◌, ap, subst}
use mathlib.Core.Bool.{true, true≢false}
use mathlib.Core.List.{List, [], ◌++◌, ◌∷◌, map}
use lib.ListN.{length}
use Rattle.rules.specs.Lists.{all, is_empty}
use Rattle.rules.specs.Tables as M
use Rattle.rules.specs.Calls.{Call}
use Rattle.rules.specs.History.{History, Turn, World, turn, turns, initial, empty_history, note_answer, whole_history}
use Rattle.rules.specs.History as H
use Rattle.rules.specs.Demand3 as R
use Rattle.rules.specs.Demand3.{is_fine, NoneRefused}
use Rattle.rules.proofs.Laws.{both}
use Rattle.rules.proofs.Demand3.{demand3 as of-rules}
use Rattle.plant.specs.View.{view_plant, kept_plant}
use Rattle.plant.specs.declared.Plant.{Plant}
use Rattle.answers.specs.View.{view_answer}
use Rattle.calls.specs.View.{view_call}
use Rattle.entry.specs.Ran.{Ran}
use Rattle.entry.specs.Demand3.{Event, Runs, left, noted, calls_of, turns_of, exchanges_of, Drains, Demand3}

abbrev pub world : Plant → History → World
world p h = record { plant = view_plant p; history = h }

-- a list of calls is a list of turns: answers, plants and history are the same
pub record Replay (p : Plant) (es : List Event) : Type 0 where
  pub calls : R.calls_of (turns_of es) ≡ calls_of es
  pub exchanges : H.exchanges (turns_of es) (view_plant p) ≡ exchanges_of es
  pub ends : (h : History) → turns (turns_of es) (world p h) ≡ world (left p es) (noted es h)
  pub fine : NoneRefused (turns_of es) (view_plant p) → all (λ e. is_fine (view_answer e.answer)) es ≡ true
  pub keeps : kept_plant (left p es) ≡ true

-- one call more in front
more : (p : Plant) (e : Event) (es : List Event) → Ran e.call e.lent p e.answer e.words e.plant → Replay e.plant es → Replay p (e ∷ es)
more p e es r l =
    let t : Turn = record { call = view_call e.call; lent = e.lent } in
    record {
      calls = ap (λ cs. view_call e.call ∷ cs) l.calls;
      exchanges = rw (sym r.answers, sym r.leaves, l.exchanges) refl;
      ends = λ h.
          let w : turn t (world p h) ≡ world e.plant (note_answer (view_call e.call) (view_answer e.answer) e.words h) = rw (sym r.answers, sym r.fills, sym r.leaves) refl in
          ap (turns (turns_of es)) w ∙ l.ends _;
      fine = λ n.
          both (is_fine (view_answer e.answer)) (all (λ x. is_fine (view_answer x.answer)) es) (ap is_fine r.answers ∙ n.0)
          (l.fine (subst (NoneRefused (turns_of es)) (sym r.leaves) n.1));
      keeps = l.keeps;
    }

pub replay : (p : Plant) (es : List Event) → kept_plant p ≡ true → Runs p es → Replay p es
replay p [] k rs = record { calls = refl; exchanges = refl; ends = λ h. refl; fine = λ n. refl; keeps = k }
replay p (e ∷ es) k rs = let r = rs.0 k in more p e es r (replay e.plant es r.keeps rs.1)

-- from set-up on
pub record FromSetup (p : Plant) (es : List Event) : Type 0 where
  pub ends : turns (turns_of es) initial ≡ world (left p es) (noted es empty_history)
  pub exchanges : H.exchanges (turns_of es) initial.plant ≡ exchanges_of es
  pub keeps : kept_plant (left p es) ≡ true

pub from_setup : (p : Plant) (es : List Event) → view_plant p ≡ M.setup → kept_plant p ≡ true → Runs p es → FromSetup p es
unfolding initial
from_setup p es start k rs =
    let x = replay p es k rs in
    let begin : initial ≡ world p empty_history = rw start refl in
    record {
      ends = ap (turns (turns_of es)) begin ∙ x.ends empty_history;
      exchanges = subst (λ z. H.exchanges (turns_of es) z ≡ exchanges_of es) start x.exchanges;
      keeps = x.keeps;
    }

-- ── the drain ──
abbrev first : Call → List Call → Call
first c [] = c
first c (d ∷ l) = d

abbrev rest : List Call → List Call
rest [] = []
rest (c ∷ l) = l

-- turns whose calls are two lists, one after the other
record Split (cs ds : List Call) (ts : List Turn) : Type 0 where
  us : List Turn
  vs : List Turn
  whole : us ++ vs ≡ ts
  before : R.calls_of us ≡ cs
  after : R.calls_of vs ≡ ds

split_calls : (cs ds : List Call) (ts : List Turn) → R.calls_of ts ≡ cs ++ ds → Split cs ds ts
split_calls [] ds ts e = record { us = []; vs = ts; whole = refl; before = refl; after = e }
split_calls (c ∷ cs) ds [] e = absurd (true≢false (ap is_empty e))
split_calls (c ∷ cs) ds (t ∷ ts) e =
    let x = split_calls cs ds ts (ap rest e) in
    let same : t.call ≡ c = ap (first c) e in
    record { us = t ∷ x.us; vs = x.vs; whole = ap (λ l. t ∷ l) x.whole; before = ap (λ d. d ∷ R.calls_of x.us) same ∙ ap (λ l. c ∷ l) x.before; after = x.after }

drains : (p : Plant) (h : History) → kept_plant p ≡ true → R.Drains (world p h) → Drains p h
drains p h k d v b l prepared es e rs =
    let x = replay p es k rs in
    let s = split_calls (map (R.preparing v) l) (R.rounds v (length h.buffered)) (turns_of es) (x.calls ∙ e) in
    let done : R.Drained (turns_of es) (world p h) =
    subst (λ ts. R.Drained ts (world p h)) s.whole (d v b l prepared s.us s.vs s.before s.after) in (
      x.fine done.none_refused,
      (subst (λ w. w.plant.buffer ≡ []) (x.ends h) done.nothing_buffered, subst (λ w. w.plant.store ≡ whole_history w.history) (x.ends h) done.all_stored),
    )

-- ── the claim ──
pub demand3 : Demand3
demand3 p start k es rs =
    let x = from_setup p es start k rs in
    let holds : R.Holds (world (left p es) (noted es empty_history)) = subst R.Holds x.ends (of-rules (turns_of es)) in
    record {
      first_part = holds.first_part;
      buffer = holds.buffer;
      commit_order = holds.commit_order;
      as_alone = holds.as_alone;
      drains = drains (left p es) (noted es empty_history) x.keeps holds.drains;
    }
