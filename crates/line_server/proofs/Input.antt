-- However an input is cut into pieces, its answers are those of its lines, demands 1 and 2 hold of each, and demand 3 after it.
use mathlib.Core.Path.{◌≡◌, subst, sym}
use mathlib.Core.Bool.{true}
use mathlib.Core.List.{List, [], ◌∷◌}
use lib.ListN.{take}
use Rattle.rules.specs.History.{initial}
use Rattle.line_format.specs.Serving.{Served, lines_of}
use Rattle.line_format.specs.Demand3.{Made}
use Rattle.line_format.specs.Demands.{Meets}
use Rattle.line_format.specs.Feeding.{Feeds}
use Rattle.line_format.proofs.Feeding.{feeds_append, feeds_whole}
use Rattle.line_format.proofs.Demand3.{lines_hold}
use Rattle.line_format.proofs.Demands.{lines_meet}
use Rattle.plant.specs.View.{view_plant}
use Rattle.line_pending.specs.View.{view_pending}
use Rattle.line_server.specs.Fed.{kept_server}
use Rattle.line_server.specs.Input.{Taken, Takes, left, input, output, InputServed, InputMeets, InputHolds}
use Rattle.line_server.specs.declared.Server.{Server}
use Rattle.line_server.proofs.Laws.{nothing_fed}

record Whole (s : Server) (xs : List Taken) : Type 0 where
  feeds : Feeds (view_pending s.pending) (view_plant s.plant) (input xs) (output xs) (view_pending (left s xs).pending) (view_plant (left s xs).plant)
  keeps : kept_server (left s xs) ≡ true

whole : (s : Server) (xs : List Taken) → kept_server s ≡ true → Takes s xs → Whole s xs
whole s [] k t = record { feeds = nothing_fed s k; keeps = k }
whole s (x ∷ xs) k t =
    let f = t.0 k in
    let r = whole x.server xs f.keeps t.1 in
    record {
      feeds =
          feeds_append (view_pending s.pending) (take x.server.used x.piece) (input xs) (take x.server.wrote x.out) (output xs) (view_pending x.server.pending)
          (view_pending (left x.server xs).pending) (view_plant s.plant) (view_plant x.server.plant) (view_plant (left x.server xs).plant) f.feeds r.feeds;
      keeps = r.keeps;
    }

pub input_served : InputServed
input_served s start none k xs t out r h =
    let w = whole s xs k t in
    feeds_whole (input xs) (output xs) (view_pending (left s xs).pending) (take r.wrote out) _ (view_plant (left s xs).plant) (view_plant r.plant)
    (subst (λ p. Feeds [] p (input xs) (output xs) (view_pending (left s xs).pending) (view_plant (left s xs).plant)) start
    (subst (λ u. Feeds u (view_plant s.plant) (input xs) (output xs) (view_pending (left s xs).pending) (view_plant (left s xs).plant)) none w.feeds))
    (h w.keeps).serves

pub input_meets : InputMeets
input_meets s start none k xs t out r h =
    let e = input_served s start none k xs t out r h in
    subst (λ (v : Served). Meets (lines_of (input xs)) initial (lines_of v.bytes) v.plant) (sym e) (lines_meet (lines_of (input xs)))

pub input_holds : InputHolds
input_holds s start none k xs t out r h =
    let e = input_served s start none k xs t out r h in
    subst (λ (v : Served). Made (lines_of (input xs)) v.plant) (sym e) (lines_hold (lines_of (input xs)))
