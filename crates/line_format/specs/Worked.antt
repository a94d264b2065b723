-- Lines and inputs worked out from the papers, byte by byte: the run that it prints, the columns of every call, and what is not in form.
use Rattle.std.specs.Prelude.{◌-◌, ℕ, ◌≡◌, List, [], ◌++◌, ◌∷◌, length, replicate, take, negsuc, pos}
use Rattle.rules.specs.Lists.{pushed}
use Rattle.rules.specs.Refusals.{bad_line, out_of_range}
use Rattle.rules.specs.Changes.{change}
use Rattle.rules.specs.Tables.{Plant, setup}
use Rattle.rules.specs.Calls.{Load, Map, Begin, Read, Change, Commit, Abandon, Advance, Take, Apply, Delete, Cut, Sweep, Store, Report, refused, fine}
use Rattle.rules.specs.Effects.{begun, cut}
use Rattle.line_format.specs.Bytes.{line_limit}
use Rattle.line_format.specs.Columns.{column}
use Rattle.line_format.specs.Lines.{says, faulty, said, answer_line}
use Rattle.line_format.specs.Serving.{served, lines_of}
use Rattle.line_format.specs.Feeding.{complete, unended, last_line}

-- ── lines by their bytes ──
-- bytes at the right of so many columns
abbrev pub right : ℕ → List ℕ → List ℕ
right w ds = replicate (w - length ds) 32 ++ ds

abbrev pub twelves : List (List ℕ) → List ℕ
twelves [] = []
twelves (n ∷ ns) = right 12 n ++ twelves ns

-- a line: two columns, then twelve for each number
abbrev pub row : List ℕ → List (List ℕ) → List ℕ
row c ns = right 2 c ++ twelves ns

-- lines, each ended by byte 10
abbrev pub rows : List (List ℕ) → List ℕ
rows [] = []
rows (l ∷ ls) = l ++ (10 ∷ []) ++ rows ls

-- what lines print one after the other
abbrev pub prints : List (List ℕ) → Plant → List ℕ
prints ls p = (served ls p).bytes

-- a line without its last byte
abbrev pub cut_last : List ℕ → List ℕ
cut_last l = take (length l - 1) l

pub record Worked : Type 0 where
  -- the run that the paper prints
  pub paper : prints (lines_of (rows
      (row (49 ∷ []) ((48 ∷ []) ∷ (48 ∷ []) ∷ (49 ∷ []) ∷ (49 ∷ 48 ∷ 48 ∷ []) ∷ [])
      ∷ row (51 ∷ []) []
      ∷ row (53 ∷ []) ((49 ∷ []) ∷ (48 ∷ []) ∷ (48 ∷ []) ∷ (51 ∷ []) ∷ (45 ∷ 50 ∷ 53 ∷ []) ∷ [])
      ∷ row (54 ∷ []) ((49 ∷ []) ∷ [])
      ∷ row (57 ∷ []) ((48 ∷ []) ∷ [])
      ∷ row (49 ∷ 48 ∷ []) ((48 ∷ []) ∷ (49 ∷ []) ∷ [])
      ∷ []))) setup
      ≡ rows
      (row (48 ∷ []) []
      ∷ row (48 ∷ []) ((49 ∷ []) ∷ [])
      ∷ row (48 ∷ []) ((49 ∷ []) ∷ [])
      ∷ row (48 ∷ []) ((49 ∷ []) ∷ [])
      ∷ row (48 ∷ []) ((49 ∷ []) ∷ [])
      ∷ row (48 ∷ []) ((48 ∷ []) ∷ [])
      ∷ [])
  -- M6 as request (c) has it, by loads: 4, 7, 4 are pushed, 4 is pulled, and a read prints the list of 7 alone
  pub recalled : prints (lines_of (rows
      (row (49 ∷ []) ((48 ∷ []) ∷ (48 ∷ []) ∷ (53 ∷ []) ∷ (52 ∷ []) ∷ [])
      ∷ row (49 ∷ []) ((48 ∷ []) ∷ (48 ∷ []) ∷ (53 ∷ []) ∷ (55 ∷ []) ∷ [])
      ∷ row (49 ∷ []) ((48 ∷ []) ∷ (48 ∷ []) ∷ (53 ∷ []) ∷ (52 ∷ []) ∷ [])
      ∷ row (49 ∷ []) ((48 ∷ []) ∷ (48 ∷ []) ∷ (54 ∷ []) ∷ (52 ∷ []) ∷ [])
      ∷ row (50 ∷ []) ((48 ∷ []) ∷ (49 ∷ []) ∷ (48 ∷ []) ∷ (48 ∷ []) ∷ (48 ∷ []) ∷ (48 ∷ []) ∷ (48 ∷ []) ∷ (48 ∷ []) ∷ (48 ∷ []) ∷ (48 ∷ []) ∷ [])
      ∷ row (51 ∷ []) []
      ∷ row (52 ∷ []) ((49 ∷ []) ∷ (48 ∷ []) ∷ [])
      ∷ []))) setup
      ≡ rows
      (row (48 ∷ []) []
      ∷ row (48 ∷ []) []
      ∷ row (48 ∷ []) []
      ∷ row (48 ∷ []) []
      ∷ row (48 ∷ []) []
      ∷ row (48 ∷ []) ((49 ∷ []) ∷ [])
      ∷ row (48 ∷ []) ((49 ∷ []) ∷ (50 ∷ []) ∷ (49 ∷ []) ∷ (55 ∷ []) ∷ (48 ∷ []) ∷ (48 ∷ []) ∷ (48 ∷ []) ∷ (48 ∷ []) ∷ (48 ∷ []) ∷ [])
      ∷ [])
  -- every call, its numbers in the paper's order; the ends of a number's range
  pub load : said (row (49 ∷ []) ((49 ∷ []) ∷ (50 ∷ []) ∷ (51 ∷ []) ∷ (45 ∷ 52 ∷ []) ∷ [])) ≡ says (Load (pos 1) (pos 2) (pos 3) (negsuc 3))
  pub map : said (row (50 ∷ []) ((49 ∷ []) ∷ (50 ∷ []) ∷ (51 ∷ []) ∷ (52 ∷ []) ∷ (53 ∷ []) ∷ (54 ∷ []) ∷ (55 ∷ []) ∷ (56 ∷ []) ∷ (57 ∷ []) ∷ (49 ∷ 48 ∷ []) ∷ [])) ≡ says (Map (pos 1) (pos 2) (record { first = record { document = pos 3; field = pos 4 }; second = record { document = pos 5; field = pos 6 }; third = record { document = pos 7; field = pos 8 }; fourth = record { document = pos 9; field = pos 10 } }))
  pub begin : said (row (51 ∷ []) []) ≡ says (Begin)
  pub read : said (row (52 ∷ []) ((49 ∷ []) ∷ (50 ∷ []) ∷ [])) ≡ says (Read (pos 1) (pos 2))
  pub change : said (row (53 ∷ []) ((49 ∷ []) ∷ (50 ∷ []) ∷ (51 ∷ []) ∷ (52 ∷ []) ∷ (53 ∷ []) ∷ [])) ≡ says (Change (pos 1) (pos 2) (pos 3) (pos 4) (pos 5))
  pub commit : said (row (54 ∷ []) ((49 ∷ []) ∷ [])) ≡ says (Commit (pos 1))
  pub abandon : said (row (55 ∷ []) ((49 ∷ []) ∷ [])) ≡ says (Abandon (pos 1))
  pub advance : said (row (56 ∷ []) ((49 ∷ []) ∷ [])) ≡ says (Advance (pos 1))
  pub take : said (row (57 ∷ []) ((49 ∷ []) ∷ [])) ≡ says (Take (pos 1))
  pub apply : said (row (49 ∷ 48 ∷ []) ((49 ∷ []) ∷ (50 ∷ []) ∷ [])) ≡ says (Apply (pos 1) (pos 2))
  pub delete : said (row (49 ∷ 49 ∷ []) ((49 ∷ []) ∷ [])) ≡ says (Delete (pos 1))
  pub cut : said (row (49 ∷ 50 ∷ []) ((49 ∷ []) ∷ [])) ≡ says (Cut (pos 1))
  pub sweep : said (row (49 ∷ 51 ∷ []) []) ≡ says (Sweep)
  pub store : said (row (49 ∷ 52 ∷ []) ((49 ∷ []) ∷ [])) ≡ says (Store (pos 1))
  pub report : said (row (49 ∷ 53 ∷ []) ((49 ∷ []) ∷ [])) ≡ says (Report (pos 1))
  pub highest : said (row (54 ∷ []) ((57 ∷ 57 ∷ 57 ∷ 57 ∷ 57 ∷ 57 ∷ 57 ∷ 57 ∷ 57 ∷ 57 ∷ 57 ∷ 57 ∷ []) ∷ [])) ≡ says (Commit (pos 999999999999))
  pub lowest : said (row (54 ∷ []) ((45 ∷ 57 ∷ 57 ∷ 57 ∷ 57 ∷ 57 ∷ 57 ∷ 57 ∷ 57 ∷ 57 ∷ 57 ∷ 57 ∷ []) ∷ [])) ≡ says (Commit (negsuc 99999999998))
  -- 23: an empty line and a single byte
  pub short : (said [] ≡ faulty bad_line)
      × (said (32 ∷ []) ≡ faulty bad_line)
      × (said (51 ∷ []) ≡ faulty bad_line)
  -- 23: a broken call column
  pub call_column : (said (48 ∷ 48 ∷ []) ≡ faulty bad_line)
      × (said (48 ∷ 53 ∷ []) ≡ faulty bad_line)
      × (said (53 ∷ 32 ∷ []) ≡ faulty bad_line)
      × (said (32 ∷ 32 ∷ []) ≡ faulty bad_line)
      × (said (45 ∷ 49 ∷ []) ≡ faulty bad_line)
      × (said (43 ∷ 49 ∷ []) ≡ faulty bad_line)
  -- 23: numbers not in form
  pub numbers : (said (32 ∷ 54 ∷ 32 ∷ 32 ∷ 32 ∷ 32 ∷ 32 ∷ 32 ∷ 32 ∷ 32 ∷ 32 ∷ 32 ∷ 45 ∷ 48 ∷ []) ≡ faulty bad_line)
      × (said (32 ∷ 54 ∷ 32 ∷ 32 ∷ 32 ∷ 32 ∷ 32 ∷ 32 ∷ 32 ∷ 32 ∷ 32 ∷ 48 ∷ 48 ∷ 55 ∷ []) ≡ faulty bad_line)
      × (said (32 ∷ 54 ∷ 32 ∷ 32 ∷ 32 ∷ 32 ∷ 32 ∷ 32 ∷ 32 ∷ 32 ∷ 32 ∷ 45 ∷ 32 ∷ 49 ∷ []) ≡ faulty bad_line)
      × (said (32 ∷ 54 ∷ 32 ∷ 32 ∷ 32 ∷ 32 ∷ 32 ∷ 32 ∷ 32 ∷ 32 ∷ 32 ∷ 32 ∷ 32 ∷ 32 ∷ []) ≡ faulty bad_line)
      × (said (32 ∷ 54 ∷ 32 ∷ 32 ∷ 32 ∷ 32 ∷ 32 ∷ 32 ∷ 32 ∷ 32 ∷ 32 ∷ 32 ∷ 49 ∷ 97 ∷ []) ≡ faulty bad_line)
      × (said (32 ∷ 54 ∷ 32 ∷ 32 ∷ 32 ∷ 32 ∷ 32 ∷ 32 ∷ 32 ∷ 32 ∷ 32 ∷ 32 ∷ 43 ∷ 49 ∷ []) ≡ faulty bad_line)
      × (said (32 ∷ 54 ∷ 32 ∷ 32 ∷ 32 ∷ 32 ∷ 32 ∷ 32 ∷ 32 ∷ 32 ∷ 32 ∷ 45 ∷ 45 ∷ 49 ∷ []) ≡ faulty bad_line)
      × (said (32 ∷ 54 ∷ 32 ∷ 32 ∷ 32 ∷ 32 ∷ 32 ∷ 32 ∷ 32 ∷ 32 ∷ 32 ∷ 32 ∷ 32 ∷ 45 ∷ []) ≡ faulty bad_line)
      × (said (32 ∷ 54 ∷ 32 ∷ 32 ∷ 32 ∷ 32 ∷ 32 ∷ 32 ∷ 32 ∷ 32 ∷ 32 ∷ 32 ∷ 9 ∷ 49 ∷ []) ≡ faulty bad_line)
      × (said (32 ∷ 54 ∷ 32 ∷ 32 ∷ 32 ∷ 32 ∷ 32 ∷ 32 ∷ 32 ∷ 32 ∷ 32 ∷ 32 ∷ 49 ∷ 32 ∷ []) ≡ faulty bad_line)
  -- 23: bytes beside those of digits and spaces
  pub neighbours : (said (32 ∷ 54 ∷ 32 ∷ 32 ∷ 32 ∷ 32 ∷ 32 ∷ 32 ∷ 32 ∷ 32 ∷ 32 ∷ 32 ∷ 49 ∷ 58 ∷ []) ≡ faulty bad_line)
      × (said (32 ∷ 54 ∷ 32 ∷ 32 ∷ 32 ∷ 32 ∷ 32 ∷ 32 ∷ 32 ∷ 32 ∷ 32 ∷ 32 ∷ 32 ∷ 47 ∷ []) ≡ faulty bad_line)
      × (said (32 ∷ 54 ∷ 32 ∷ 32 ∷ 32 ∷ 32 ∷ 32 ∷ 32 ∷ 32 ∷ 32 ∷ 32 ∷ 32 ∷ 49 ∷ 47 ∷ []) ≡ faulty bad_line)
      × (said (32 ∷ 54 ∷ 32 ∷ 32 ∷ 32 ∷ 32 ∷ 32 ∷ 32 ∷ 32 ∷ 32 ∷ 32 ∷ 32 ∷ 0 ∷ 49 ∷ []) ≡ faulty bad_line)
      × (said (32 ∷ 54 ∷ 0 ∷ 32 ∷ 32 ∷ 32 ∷ 32 ∷ 32 ∷ 32 ∷ 32 ∷ 32 ∷ 32 ∷ 32 ∷ 49 ∷ []) ≡ faulty bad_line)
      × (said (32 ∷ 54 ∷ 32 ∷ 32 ∷ 32 ∷ 32 ∷ 32 ∷ 32 ∷ 32 ∷ 32 ∷ 32 ∷ 32 ∷ 32 ∷ 176 ∷ []) ≡ faulty bad_line)
      × (said (49 ∷ 58 ∷ []) ≡ faulty bad_line)
      × (said (32 ∷ 47 ∷ []) ≡ faulty bad_line)
      × (said (0 ∷ 51 ∷ []) ≡ faulty bad_line)
  -- 23: too few, too many, or bytes after the last
  pub counts : (said (32 ∷ 54 ∷ []) ≡ faulty bad_line)
      × (said (32 ∷ 54 ∷ 32 ∷ 32 ∷ 32 ∷ 32 ∷ 32 ∷ 32 ∷ 32 ∷ 32 ∷ 32 ∷ 32 ∷ 49 ∷ []) ≡ faulty bad_line)
      × (said (32 ∷ 54 ∷ 32 ∷ 32 ∷ 32 ∷ 32 ∷ 32 ∷ 32 ∷ 32 ∷ 32 ∷ 32 ∷ 32 ∷ 32 ∷ 49 ∷ 32 ∷ 32 ∷ 32 ∷ 32 ∷ 32 ∷ 32 ∷ 32 ∷ 32 ∷ 32 ∷ 32 ∷ 32 ∷ 49 ∷ []) ≡ faulty bad_line)
      × (said (32 ∷ 54 ∷ 32 ∷ 32 ∷ 32 ∷ 32 ∷ 32 ∷ 32 ∷ 32 ∷ 32 ∷ 32 ∷ 32 ∷ 32 ∷ 49 ∷ 32 ∷ []) ≡ faulty bad_line)
      × (said (32 ∷ 51 ∷ 32 ∷ []) ≡ faulty bad_line)
      × (said (32 ∷ 51 ∷ 13 ∷ []) ≡ faulty bad_line)
  -- 23: a minus or a space after a digit, a minus before a leading zero, a byte between digits that is none, a tab or a letter in the call column
  pub inside : (said (32 ∷ 54 ∷ 32 ∷ 32 ∷ 32 ∷ 32 ∷ 32 ∷ 32 ∷ 32 ∷ 32 ∷ 32 ∷ 32 ∷ 49 ∷ 45 ∷ []) ≡ faulty bad_line)
      × (said (32 ∷ 54 ∷ 32 ∷ 32 ∷ 32 ∷ 32 ∷ 32 ∷ 32 ∷ 32 ∷ 32 ∷ 32 ∷ 49 ∷ 32 ∷ 49 ∷ []) ≡ faulty bad_line)
      × (said (32 ∷ 54 ∷ 32 ∷ 32 ∷ 32 ∷ 32 ∷ 32 ∷ 32 ∷ 32 ∷ 32 ∷ 32 ∷ 45 ∷ 48 ∷ 55 ∷ []) ≡ faulty bad_line)
      × (said (32 ∷ 54 ∷ 32 ∷ 32 ∷ 32 ∷ 32 ∷ 32 ∷ 32 ∷ 32 ∷ 32 ∷ 32 ∷ 49 ∷ 97 ∷ 49 ∷ []) ≡ faulty bad_line)
      × (said (9 ∷ 51 ∷ []) ≡ faulty bad_line)
      × (said (32 ∷ 97 ∷ []) ≡ faulty bad_line)
      × (said (51 ∷ 97 ∷ []) ≡ faulty bad_line)
  -- zeros that do not lead
  pub zeros : (said (row (54 ∷ []) ((48 ∷ []) ∷ [])) ≡ says (Commit (pos 0)))
      × (said (row (54 ∷ []) ((49 ∷ 48 ∷ 48 ∷ 50 ∷ 48 ∷ 48 ∷ []) ∷ [])) ≡ says (Commit (pos 100200)))
      × (said (row (54 ∷ []) ((45 ∷ 49 ∷ 48 ∷ []) ∷ [])) ≡ says (Commit (negsuc 9)))
  -- numbers that fill their columns stand side by side
  pub side_by_side : said (row (49 ∷ []) ((57 ∷ 57 ∷ 57 ∷ 57 ∷ 57 ∷ 57 ∷ 57 ∷ 57 ∷ 57 ∷ 57 ∷ 57 ∷ 57 ∷ []) ∷ (45 ∷ 57 ∷ 57 ∷ 57 ∷ 57 ∷ 57 ∷ 57 ∷ 57 ∷ 57 ∷ 57 ∷ 57 ∷ 57 ∷ []) ∷ (49 ∷ 48 ∷ 48 ∷ 48 ∷ 48 ∷ 48 ∷ 48 ∷ 48 ∷ 48 ∷ 48 ∷ 48 ∷ 48 ∷ []) ∷ (45 ∷ 57 ∷ 57 ∷ 57 ∷ 57 ∷ 57 ∷ 57 ∷ 57 ∷ 57 ∷ 57 ∷ 57 ∷ 57 ∷ []) ∷ [])) ≡ says (Load (pos 999999999999) (negsuc 99999999998) (pos 100000000000) (negsuc 99999999998))
  -- 23 comes before 1, of the first number or of the last
  pub form_first : (said (row (49 ∷ []) ((54 ∷ 52 ∷ []) ∷ (48 ∷ []) ∷ (49 ∷ []) ∷ (45 ∷ 48 ∷ []) ∷ [])) ≡ faulty bad_line)
      × (said (row (49 ∷ []) ((45 ∷ 48 ∷ []) ∷ (48 ∷ []) ∷ (57 ∷ []) ∷ (49 ∷ []) ∷ [])) ≡ faulty bad_line)
      × (said (row (56 ∷ []) ((54 ∷ 53 ∷ 53 ∷ 51 ∷ 54 ∷ []) ∷ []) ++ (32 ∷ [])) ≡ faulty bad_line)
  -- the longest line in form, one byte less and one byte more
  pub longest : (said (cut_last (row (50 ∷ []) ((48 ∷ []) ∷ (49 ∷ []) ∷ (48 ∷ []) ∷ (48 ∷ []) ∷ (48 ∷ []) ∷ (48 ∷ []) ∷ (48 ∷ []) ∷ (48 ∷ []) ∷ (48 ∷ []) ∷ (48 ∷ []) ∷ []))) ≡ faulty bad_line)
      × (said (row (50 ∷ []) ((48 ∷ []) ∷ (49 ∷ []) ∷ (48 ∷ []) ∷ (48 ∷ []) ∷ (48 ∷ []) ∷ (48 ∷ []) ∷ (48 ∷ []) ∷ (48 ∷ []) ∷ (48 ∷ []) ∷ (48 ∷ []) ∷ []) ++ (49 ∷ [])) ≡ faulty bad_line)
  -- what is kept of a line that has begun: 122 bytes tell a map, and one more tells that it is too long
  pub lengths : (length (row (50 ∷ []) ((48 ∷ []) ∷ (49 ∷ []) ∷ (48 ∷ []) ∷ (48 ∷ []) ∷ (48 ∷ []) ∷ (48 ∷ []) ∷ (48 ∷ []) ∷ (48 ∷ []) ∷ (48 ∷ []) ∷ (48 ∷ []) ∷ [])) ≡ 122)
      × (line_limit ≡ 123)
  -- 1: a call that there is not, whatever follows
  pub unknown : (said (32 ∷ 48 ∷ []) ≡ faulty out_of_range)
      × (said (49 ∷ 54 ∷ []) ≡ faulty out_of_range)
      × (said (57 ∷ 57 ∷ []) ≡ faulty out_of_range)
      × (said (57 ∷ 57 ∷ 32 ∷ 97 ∷ 110 ∷ 121 ∷ 116 ∷ 104 ∷ 105 ∷ 110 ∷ 103 ∷ []) ≡ faulty out_of_range)
  -- answers: a refusal alone, 0 alone, numbers, a read with its words
  pub answers : (answer_line (refused bad_line) (pos 1 ∷ []) ≡ (50 ∷ 51 ∷ []))
      × (answer_line (refused out_of_range) [] ≡ (32 ∷ 49 ∷ []))
      × (answer_line (fine []) [] ≡ (32 ∷ 48 ∷ []))
      × (answer_line (fine (2 ∷ 10 ∷ 99999999999 ∷ [])) [] ≡ row (48 ∷ []) ((50 ∷ []) ∷ (49 ∷ 48 ∷ []) ∷ (57 ∷ 57 ∷ 57 ∷ 57 ∷ 57 ∷ 57 ∷ 57 ∷ 57 ∷ 57 ∷ 57 ∷ 57 ∷ []) ∷ []))
      × (answer_line (fine (1 ∷ [])) (pos 0 ∷ negsuc 0 ∷ negsuc 2147483647 ∷ []) ≡ row (48 ∷ []) ((49 ∷ []) ∷ (48 ∷ []) ∷ (45 ∷ 49 ∷ []) ∷ (45 ∷ 50 ∷ 49 ∷ 52 ∷ 55 ∷ 52 ∷ 56 ∷ 51 ∷ 54 ∷ 52 ∷ 56 ∷ []) ∷ []))
  -- answers that fill their columns, and the ends of a session's number and of 32 bits
  pub wide : answer_line (fine (999999999999 ∷ 4294967295 ∷ 100 ∷ [])) (negsuc 99999999998 ∷ pos 2147483647 ∷ negsuc 9 ∷ [])
      ≡ row (48 ∷ []) ((57 ∷ 57 ∷ 57 ∷ 57 ∷ 57 ∷ 57 ∷ 57 ∷ 57 ∷ 57 ∷ 57 ∷ 57 ∷ 57 ∷ []) ∷ (52 ∷ 50 ∷ 57 ∷ 52 ∷ 57 ∷ 54 ∷ 55 ∷ 50 ∷ 57 ∷ 53 ∷ []) ∷ (49 ∷ 48 ∷ 48 ∷ []) ∷ (45 ∷ 57 ∷ 57 ∷ 57 ∷ 57 ∷ 57 ∷ 57 ∷ 57 ∷ 57 ∷ 57 ∷ 57 ∷ 57 ∷ []) ∷ (50 ∷ 49 ∷ 52 ∷ 55 ∷ 52 ∷ 56 ∷ 51 ∷ 54 ∷ 52 ∷ 55 ∷ []) ∷ (45 ∷ 49 ∷ 48 ∷ []) ∷ [])
  -- inputs cut into lines: none, an empty one, one that the end of input ends, none after a last byte 10
  pub inputs : (lines_of [] ≡ [])
      × (lines_of (10 ∷ []) ≡ [] ∷ [])
      × (lines_of (32 ∷ 51 ∷ []) ≡ (32 ∷ 51 ∷ []) ∷ [])
      × (lines_of (32 ∷ 51 ∷ 10 ∷ []) ≡ (32 ∷ 51 ∷ []) ∷ [])
      × (lines_of (51 ∷ 10 ∷ 10 ∷ 52 ∷ []) ≡ (51 ∷ []) ∷ [] ∷ (52 ∷ []) ∷ [])
  -- a read prints eight words for each place that its key has; a refused one prints none
  pub reads : prints (
      row (49 ∷ []) ((48 ∷ []) ∷ (48 ∷ []) ∷ (53 ∷ []) ∷ (45 ∷ 52 ∷ []) ∷ [])
      ∷ row (50 ∷ []) ((48 ∷ []) ∷ (50 ∷ []) ∷ (48 ∷ []) ∷ (48 ∷ []) ∷ (49 ∷ []) ∷ (48 ∷ []) ∷ (48 ∷ []) ∷ (48 ∷ []) ∷ (48 ∷ []) ∷ (48 ∷ []) ∷ [])
      ∷ row (51 ∷ []) []
      ∷ row (52 ∷ []) ((49 ∷ []) ∷ (48 ∷ []) ∷ [])
      ∷ row (52 ∷ []) ((49 ∷ []) ∷ (49 ∷ []) ∷ [])
      ∷ []) setup
      ≡ rows
      (row (48 ∷ []) []
      ∷ row (48 ∷ []) []
      ∷ row (48 ∷ []) ((49 ∷ []) ∷ [])
      ∷ row (48 ∷ []) ((49 ∷ []) ∷ (50 ∷ []) ∷ (49 ∷ []) ∷ (45 ∷ 52 ∷ []) ∷ (48 ∷ []) ∷ (48 ∷ []) ∷ (48 ∷ []) ∷ (48 ∷ []) ∷ (48 ∷ []) ∷ (48 ∷ []) ∷ (48 ∷ []) ∷ (48 ∷ []) ∷ (48 ∷ []) ∷ (48 ∷ []) ∷ (48 ∷ []) ∷ (48 ∷ []) ∷ (48 ∷ []) ∷ [])
      ∷ row (57 ∷ []) []
      ∷ [])
  -- lines that are refused before the plant is asked leave it, and so do calls out of range
  pub refused_lines : prints (
      row (49 ∷ []) ((48 ∷ []) ∷ (48 ∷ []) ∷ (49 ∷ []) ∷ (45 ∷ 48 ∷ []) ∷ [])
      ∷ []
      ∷ (32 ∷ 48 ∷ [])
      ∷ row (49 ∷ []) ((54 ∷ 52 ∷ []) ∷ (48 ∷ []) ∷ (49 ∷ []) ∷ (53 ∷ []) ∷ [])
      ∷ row (51 ∷ []) []
      ∷ []) setup
      ≡ rows
      (row (50 ∷ 51 ∷ []) []
      ∷ row (50 ∷ 51 ∷ []) []
      ∷ row (49 ∷ []) []
      ∷ row (49 ∷ []) []
      ∷ row (48 ∷ []) ((49 ∷ []) ∷ [])
      ∷ [])
  -- a key of one place shows eight words, one of four 32, for which the line lends enough
  pub keys_shown : prints (
      row (49 ∷ []) ((48 ∷ []) ∷ (49 ∷ []) ∷ (49 ∷ []) ∷ (55 ∷ []) ∷ [])
      ∷ row (49 ∷ []) ((48 ∷ []) ∷ (51 ∷ []) ∷ (52 ∷ []) ∷ (45 ∷ 53 ∷ []) ∷ [])
      ∷ row (50 ∷ []) ((48 ∷ []) ∷ (49 ∷ []) ∷ (48 ∷ []) ∷ (49 ∷ []) ∷ (48 ∷ []) ∷ (48 ∷ []) ∷ (48 ∷ []) ∷ (48 ∷ []) ∷ (48 ∷ []) ∷ (48 ∷ []) ∷ [])
      ∷ row (50 ∷ []) ((49 ∷ []) ∷ (52 ∷ []) ∷ (48 ∷ []) ∷ (48 ∷ []) ∷ (48 ∷ []) ∷ (49 ∷ []) ∷ (48 ∷ []) ∷ (50 ∷ []) ∷ (48 ∷ []) ∷ (51 ∷ []) ∷ [])
      ∷ row (51 ∷ []) []
      ∷ row (52 ∷ []) ((49 ∷ []) ∷ (48 ∷ []) ∷ [])
      ∷ row (52 ∷ []) ((49 ∷ []) ∷ (49 ∷ []) ∷ [])
      ∷ []) setup
      ≡ rows
      (row (48 ∷ []) []
      ∷ row (48 ∷ []) []
      ∷ row (48 ∷ []) []
      ∷ row (48 ∷ []) []
      ∷ row (48 ∷ []) ((49 ∷ []) ∷ [])
      ∷ row (48 ∷ []) ((49 ∷ []) ∷ (49 ∷ []) ∷ (49 ∷ []) ∷ (55 ∷ []) ∷ (48 ∷ []) ∷ (48 ∷ []) ∷ (48 ∷ []) ∷ (48 ∷ []) ∷ (48 ∷ []) ∷ [])
      ∷ row (48 ∷ []) ((49 ∷ []) ∷ (48 ∷ []) ∷ (48 ∷ []) ∷ (48 ∷ []) ∷ (48 ∷ []) ∷ (48 ∷ []) ∷ (48 ∷ []) ∷ (48 ∷ []) ∷ (48 ∷ []) ∷ (49 ∷ []) ∷ (49 ∷ []) ∷ (55 ∷ []) ∷ (48 ∷ []) ∷ (48 ∷ []) ∷ (48 ∷ []) ∷ (48 ∷ []) ∷ (48 ∷ []) ∷ (48 ∷ []) ∷ (48 ∷ []) ∷ (48 ∷ []) ∷ (48 ∷ []) ∷ (48 ∷ []) ∷ (48 ∷ []) ∷ (48 ∷ []) ∷ (48 ∷ []) ∷ (50 ∷ []) ∷ (49 ∷ []) ∷ (45 ∷ 53 ∷ []) ∷ (48 ∷ []) ∷ (48 ∷ []) ∷ (48 ∷ []) ∷ (48 ∷ []) ∷ (48 ∷ []) ∷ [])
      ∷ [])
  -- the calls that the paper's run has not, and those that answer 0 alone
  pub others : prints (
      row (56 ∷ []) ((53 ∷ []) ∷ [])
      ∷ row (49 ∷ 52 ∷ []) ((48 ∷ []) ∷ [])
      ∷ row (49 ∷ 52 ∷ []) ((49 ∷ []) ∷ [])
      ∷ row (49 ∷ 51 ∷ []) []
      ∷ row (49 ∷ 50 ∷ []) ((51 ∷ []) ∷ [])
      ∷ row (51 ∷ []) []
      ∷ row (49 ∷ 53 ∷ []) ((49 ∷ []) ∷ [])
      ∷ row (53 ∷ []) ((49 ∷ []) ∷ (48 ∷ []) ∷ (48 ∷ []) ∷ (49 ∷ []) ∷ (53 ∷ []) ∷ [])
      ∷ row (54 ∷ []) ((49 ∷ []) ∷ [])
      ∷ row (57 ∷ []) ((48 ∷ []) ∷ [])
      ∷ row (49 ∷ 48 ∷ []) ((48 ∷ []) ∷ (48 ∷ []) ∷ [])
      ∷ row (49 ∷ 49 ∷ []) ((48 ∷ []) ∷ [])
      ∷ row (51 ∷ []) []
      ∷ row (55 ∷ []) ((50 ∷ []) ∷ [])
      ∷ []) setup
      ≡ rows
      (row (48 ∷ []) ((53 ∷ []) ∷ [])
      ∷ row (48 ∷ []) []
      ∷ row (48 ∷ []) []
      ∷ row (48 ∷ []) ((48 ∷ []) ∷ [])
      ∷ row (48 ∷ []) []
      ∷ row (48 ∷ []) ((49 ∷ []) ∷ [])
      ∷ row (48 ∷ []) ((48 ∷ []) ∷ (48 ∷ []) ∷ (48 ∷ []) ∷ [])
      ∷ row (48 ∷ []) ((49 ∷ []) ∷ [])
      ∷ row (48 ∷ []) ((49 ∷ []) ∷ [])
      ∷ row (48 ∷ []) ((49 ∷ []) ∷ [])
      ∷ row (48 ∷ []) ((49 ∷ []) ∷ [])
      ∷ row (48 ∷ []) ((49 ∷ []) ∷ [])
      ∷ row (48 ∷ []) ((50 ∷ []) ∷ [])
      ∷ row (48 ∷ []) []
      ∷ [])
  -- an input in pieces: the lines that are ended, and what follows the last byte 10
  pub pieces : (complete (51 ∷ 10 ∷ 10 ∷ 52 ∷ 53 ∷ []) ≡ (51 ∷ []) ∷ [] ∷ [])
      × (unended (51 ∷ 10 ∷ 10 ∷ 52 ∷ 53 ∷ []) ≡ 52 ∷ 53 ∷ [])
      × (complete (51 ∷ 52 ∷ []) ≡ [])
      × (unended (51 ∷ 52 ∷ []) ≡ 51 ∷ 52 ∷ [])
      × (unended (51 ∷ 10 ∷ []) ≡ [])
      × (last_line [] ≡ [])
      × (last_line (51 ∷ 52 ∷ []) ≡ (51 ∷ 52 ∷ []) ∷ [])
