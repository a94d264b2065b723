-- What a server promises. Where it keeps the rules, the lines that a piece ends are served, and of the line that is not ended the first
-- bytes are kept; of any server form is kept, and where too few bytes are lent nothing is done.
use Rattle.std.specs.Prelude.{◌≤◌, ℕ, ◌≡◌, Bool, ◌&&◌, not, true, List, [], length, take, drop, leb}
use Rattle.line_format.specs.Bytes.{line_limit}
use Rattle.line_format.specs.Serving.{Serves}
use Rattle.line_format.specs.Feeding.{has_end, last_line, Feeds}
use Rattle.plant.specs.View.{view_plant, plant_form, kept_plant}
use Rattle.line_pending.specs.View.{view_pending, pending_form, between}
use Rattle.line_server.specs.declared.Server.{Server}

-- the plant keeps the tables' rules, and what is kept of a line holds no byte 10 and is not longer than it need be
unfoldable pub kept_server : Server → Bool
kept_server s = kept_plant s.plant && (not (has_end (view_pending s.pending)) && leb (length (view_pending s.pending)) line_limit)

-- within the piece, and within the bytes lent for the answers
abbrev pub Within : Server → List ℕ → List ℕ → Type 0
Within s piece out = (s.used ≤ length piece) × (s.wrote ≤ length out)

-- the bytes lent past those filled are as they were
abbrev pub Past : Server → List ℕ → List ℕ → Type 0
Past s lent out = drop s.wrote out ≡ drop s.wrote lent

-- a part of the piece, served into the bytes after those filled
pub record Next (s : Server) (piece lent out : List ℕ) (t : Server) : Type 0 where
  pub feeds : Feeds (view_pending s.pending) (view_plant s.plant) (between s.used t.used piece) (between s.wrote t.wrote out) (view_pending t.pending) (view_plant t.plant)
  pub before : take s.wrote out ≡ take s.wrote lent
  pub past : Past t lent out
  pub upwards : (s.used ≤ t.used) × (s.wrote ≤ t.wrote)
  pub keeps : kept_server t ≡ true

-- a piece, and bytes lent for the answers
pub record Fed (s : Server) (piece out : List ℕ) (t : Server) : Type 0 where
  pub feeds : Feeds (view_pending s.pending) (view_plant s.plant) (take t.used piece) (take t.wrote out) (view_pending t.pending) (view_plant t.plant)
  pub keeps : kept_server t ≡ true

-- the end of input: nothing is left of a line
pub record Finished (s : Server) (out : List ℕ) (t : Server) : Type 0 where
  pub serves : Serves (last_line (view_pending s.pending)) (view_plant s.plant) (take t.wrote out) (view_plant t.plant)
  pub ends : view_pending t.pending ≡ []
  pub keeps : kept_server t ≡ true

-- ── of any server, kept or not ──
-- the very plant and bytes kept, and the bytes lent as they were
pub record Untouched (s : Server) (lent out : List ℕ) (t : Server) : Type 0 where
  pub plant : t.plant ≡ s.plant
  pub pending : t.pending ≡ s.pending
  pub used : t.used ≡ 0
  pub wrote : t.wrote ≡ 0
  pub bytes : out ≡ lent

pub record FormKept (s t : Server) : Type 0 where
  pub plant : plant_form s.plant ≡ true → plant_form t.plant ≡ true
  pub pending : pending_form s.pending ≡ true → pending_form t.pending ≡ true
