-- However an input is cut into pieces, its answers are those of its lines, demands 1 and 2 hold of each line, demand 3 of the plant left
-- behind, and its cached keys and rows stand in their order. The proof is proofs/Input, from the promises of `feed` and `finish` and the rules' theorem alone.
use Rattle.std.specs.Prelude.{ℕ, ◌≡◌, true, List, [], ◌++◌, ◌∷◌, take}
use Rattle.rules.specs.Tables.{Plant, setup}
use Rattle.rules.specs.History.{initial}
use Rattle.line_format.specs.Serving.{lines_of, Serves}
use Rattle.line_format.specs.Demand3.{Made}
use Rattle.line_format.specs.Demands.{Meets}
use Rattle.plant.specs.View.{view_plant}
use Rattle.line_pending.specs.View.{view_pending}
use Rattle.line_server.specs.Fed.{kept_server, Fed, Finished}
use Rattle.line_server.specs.declared.Server.{Server}

-- a piece, the bytes lent with it as `feed` left them, and the server that it left
pub record Taken : Type 0 where
  pub piece : List ℕ
  pub out : List ℕ
  pub server : Server

-- each piece is taken by the server that the one before left, and the promise of `feed` holds of each
abbrev pub Takes : Server → List Taken → Type 0
Takes s [] = Unit {0}
Takes s (x ∷ xs) = (kept_server s ≡ true → Fed s x.piece x.out x.server) × Takes x.server xs

abbrev pub left : Server → List Taken → Server
left s [] = s
left s (x ∷ xs) = left x.server xs

-- the bytes used, and the bytes answered
abbrev pub input : List Taken → List ℕ
input [] = []
input (x ∷ xs) = take x.server.used x.piece ++ input xs

abbrev pub output : List Taken → List ℕ
output [] = []
output (x ∷ xs) = take x.server.wrote x.out ++ output xs

-- what is claimed of an input's lines, the bytes answered and the plant left. `Server::start()` promises the premises on the first server
abbrev pub OfInput : (List (List ℕ) → List ℕ → Plant → Type 0) → Type 0
OfInput Claim =
    (s : Server) → view_plant s.plant ≡ setup → view_pending s.pending ≡ [] → kept_server s ≡ true
    → (xs : List Taken) → Takes s xs → (out : List ℕ) (t : Server) → (kept_server (left s xs) ≡ true → Finished (left s xs) out t)
    → Claim (lines_of (input xs)) (output xs ++ take t.wrote out) (view_plant t.plant)

abbrev pub InputServed : Type 0
InputServed = OfInput (λ ls out q. Serves ls setup out q)

-- demands 1 and 2 of the line program's server: of each line of the input, by the line of the output that answers it
abbrev pub InputMeets : Type 0
InputMeets = OfInput (λ ls out q. Meets ls initial (lines_of out) q)

-- demand 3, and the order of the cached keys and of the rows
abbrev pub InputHolds : Type 0
InputHolds = OfInput (λ ls out q. Made ls q)
