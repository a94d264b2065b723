-- Lines served one by one, in parts, and by their first bytes alone.
use Prim.Native.Nat.{ℕ}
use mathlib.Core.Path.{◌≡◌, ap, refl, sym}
use mathlib.Core.List.{List, [], ◌++◌, ◌∷◌, append_assoc, map}
use lib.ListN.{take}
use Rattle.rules.specs.Tables.{Plant}
use Rattle.line_format.specs.Bytes.{line_limit}
use Rattle.line_format.specs.Serving.{Served, Serves, serve, served}
use Rattle.line_format.proofs.Short.{short-serve}

served_append : (ls ms : List (List ℕ)) (p : Plant) → served (ls ++ ms) p
    ≡ record { bytes = (served ls p).bytes ++ (served ms (served ls p).plant).bytes; plant = (served ms (served ls p).plant).plant }
served_append [] ms p = refl
served_append (l ∷ ls) ms p =
    let v = serve l p in
    let w = served ls v.plant in
    rw (served_append ls ms v.plant, append_assoc v.bytes w.bytes (served ms w.plant).bytes) refl

pub serves_append : (ls ms : List (List ℕ)) (p q r : Plant) (out out' : List ℕ) → Serves ls p out q → Serves ms q out' r → Serves (ls ++ ms) p (out ++ out') r
serves_append ls ms p q r out out' s t =
    rw (ap (λ (v : Served). v.bytes) t, ap (λ (v : Served). v.plant) t, ap (λ (v : Served). v.bytes) s, ap (λ (v : Served). v.plant) s) (sym (served_append ls ms p))

-- a line is served by its first bytes
pub served_short : (ls : List (List ℕ)) (p : Plant) → served (map (take line_limit) ls) p ≡ served ls p
served_short [] p = refl
served_short (l ∷ ls) p = rw (short-serve l p, served_short ls (serve l p).plant) refl
