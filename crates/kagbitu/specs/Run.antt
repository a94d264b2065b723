-- What the line program's loop has done: its turns in order, the bytes that they read, the bytes that they answered, and the server and the unused
-- bytes that they left. The promises of lines hold of such a run.
use Rattle.std.specs.Prelude.{ℕ, suc, ◌≤◌, ◌≡◌, true, List, [], ◌++◌, length, take, drop}
use Rattle.rules.specs.Tables.{Plant, setup}
use Rattle.rules.specs.History.{initial}
use Rattle.line_format.specs.Serving.{lines_of, Serves}
use Rattle.line_format.specs.Demands.{Meets}
use Rattle.line_format.specs.Demand3.{Made}
use Rattle.plant.specs.View.{view_plant}
use Rattle.line_pending.specs.View.{view_pending}
use Rattle.line_print.specs.Line.{longest}
use Rattle.line_server.specs.Fed.{kept_server, Within, Fed, Finished}
use Rattle.line_server.specs.Input.{Taken, Takes, left, input, output}
use Rattle.line_server.specs.declared.Server.{Server}
use Rattle.kagbitu.specs.Part.{unused, Rest}
use Rattle.kagbitu.specs.declared.part.Part.{Part}

-- a turn reads at least one byte, where none is unused: the first bytes of the buffer as the read left it
pub record ReadSome (buffer : List ℕ) (n : ℕ) : Type 0 where
  pub some : 1 ≤ n
  pub within : n ≤ length buffer

-- or feeds all unused bytes to the server, which uses at least one of them
pub record FedSome (s : Server) (unused out : List ℕ) (t : Server) : Type 0 where
  pub fed : Fed s unused out t
  pub some : 1 ≤ t.used
  pub within : t.used ≤ length unused

-- what is promised of such a turn: p is what was unused of the piece, q what is unused then
pub record Turned (s : Server) (p : Part) (piece lent out : List ℕ) (t : Server) (q : Part) : Type 0 where
  pub fed : kept_server s ≡ true → Fed s (unused p piece) out t
  pub within : Within t (unused p piece) lent
  pub some : longest ≤ length lent → t.used ≡ 0 → length (unused p piece) ≡ 0
  pub rest : Rest t.used p q

-- from the server s, after so many turns: the bytes read, the bytes answered, the server, and the bytes read that are unused
pub data Run (s : Server) : ℕ → List ℕ → List ℕ → Server → List ℕ → Type 0 where
  starts : Run s 0 [] [] s []
  reads : {n : ℕ} {bytes answers : List ℕ} {t : Server} → Run s n bytes answers t []
      → (buffer : List ℕ) (k : ℕ) → ReadSome buffer k → Run s (suc n) (bytes ++ take k buffer) answers t (take k buffer)
  feeds : {n : ℕ} {bytes answers unused : List ℕ} {t : Server} → Run s n bytes answers t unused
      → (out : List ℕ) (u : Server) → FedSome t unused out u → Run s (suc n) bytes (answers ++ take u.wrote out) u (drop u.used unused)

-- some bytes read and answered in so many turns
pub record SomeRun (s : Server) (n : ℕ) (t : Server) (unused : List ℕ) : Type 0 where
  pub bytes : List ℕ
  pub answers : List ℕ
  pub run : Run s n bytes answers t unused

-- what `Server::start()` promises
pub record Started (s : Server) : Type 0 where
  pub shows : view_plant s.plant ≡ setup
  pub empty : view_pending s.pending ≡ []
  pub kept : kept_server s ≡ true

-- the server that all of an input leads to from the start: nothing of it is unused
pub record Ended (t : Server) : Type 0 where
  pub first : Server
  pub started : Started first
  pub turns : ℕ
  pub ran : SomeRun first turns t []

-- ── what holds of a run; the proofs are proofs/Run ──
-- the bytes read are those that the server has taken, piece by piece, and then the unused; those answered are its answers
pub record Led (s : Server) (bytes answers : List ℕ) (t : Server) (unused : List ℕ) : Type 0 where
  pub pieces : List Taken
  pub takes : Takes s pieces
  pub leaves : left s pieces ≡ t
  pub read : input pieces ++ unused ≡ bytes
  pub told : output pieces ≡ answers

abbrev pub RunLeads : Type 0
RunLeads = (s : Server) (n : ℕ) (bytes answers : List ℕ) (t : Server) (unused : List ℕ) → Run s n bytes answers t unused → Led s bytes answers t unused

-- what was answered in all, with the last bytes, is the answer to the lines of all bytes read; demands 1 to 3 hold of them, and the cached
-- keys and the rows stand in their order
pub record Whole (bytes answers : List ℕ) (p : Plant) : Type 0 where
  pub serves : Serves (lines_of bytes) setup answers p
  pub meets : Meets (lines_of bytes) initial (lines_of answers) p
  pub holds : Made (lines_of bytes) p

abbrev pub RunServed : Type 0
RunServed =
    (s : Server) → Started s → (n : ℕ) (bytes answers : List ℕ) (t : Server) → Run s n bytes answers t []
    → (out : List ℕ) (u : Server) → (kept_server t ≡ true → Finished t out u) → Whole bytes (answers ++ take u.wrote out) (view_plant u.plant)

-- what is promised where the input ends: the last bytes answered are so many of those lent
pub record AllServed (t : Server) (out : List ℕ) (wrote : ℕ) : Type 0 where
  pub ended : Ended t
  pub plant : Plant
  pub whole : Whole ended.ran.bytes (ended.ran.answers ++ take wrote out) plant
