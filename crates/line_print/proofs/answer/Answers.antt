-- `answer` meets its contract.
use Rattle.line_print.proofs.LineLaws.{room_is, no_room_lem, line-printed}
use Rattle.line_print.proofs.answer.Goals as goal

pub returns-then-not-has_room : goal.returns-then-not-has_room
returns-then-not-has_room c =
    let r = no_room_lem _ _ _ _ _ c.of-t.ensures c.shown_words-n.ensures _ _ c.has_room.ensures c.if-not-has_room.true in
    record { prints = r.0; takes = r.1 }

pub print_line-requires : goal.print_line-requires
print_line-requires c = (c.of-t.ensures.few, room_is _ _ _ _ _ c.of-t.ensures c.shown_words-n.ensures _ _ c.has_room.ensures c.if-not-has_room.false)

pub returns : goal.returns
returns c =
    let r = line-printed _ _ _ _ _ c.of-t.ensures c.shown_words-n.ensures _ _ c.has_room.ensures c.if-not-has_room.false _ _ c.print_line.ensures.prints c.print_line.ensures.takes in
    record { prints = r.0; takes = r.1 }
