-- Look from the newest booking back, of the code: the rules' claim, of the answer that the entry gives.
use mathlib.Core.Path.{sym, ◌∙◌}
use Rattle.rules.proofs.Walks as R
use Rattle.plant.specs.View.{view_plant}
use Rattle.entry.specs.Walks.{WalkDecides}

pub walk_decides_lem : WalkDecides
walk_decides_lem p n =
    let d = R.walk_decides_lem (view_plant p) n in
    record {
      read_unknown = λ s k a. d.read_unknown s k a.lent (sym a.ran.answers ∙ a.is);
      read_known = λ s k ns a. d.read_known s k a.lent ns (sym a.ran.answers ∙ a.is);
      change_unknown = λ s d' f k v a. d.change_unknown s d' f k v a.lent (sym a.ran.answers ∙ a.is);
      change_known = λ s d' f k v ns a. d.change_known s d' f k v a.lent ns (sym a.ran.answers ∙ a.is);
    }
