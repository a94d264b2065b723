-- The eight words that show a field.
use Rattle.field.proofs.WordLaws.{write_is}
use Rattle.field.proofs.Field.write.Goals as goal

pub returns : goal.returns
returns c =
    let m = c.members-members.ensures in
    write_is c.args.self m.shows m.few c.min.ensures c.args.words.now c.if-words-lt-WORDS.false c.copy_from_slice.ensures.after (c.fill.ensures.after (λ y e. e))
