-- `bounds::sizes::has_room` meets its contract: a reduced form is never longer than its type, so a type that has room says yes; otherwise the measured size decides.
-- Assumes nothing.
use Rattle.bounds.proofs.ReducedSizes.{room_enough, room_measured}
use mathlib.Core.Path.{refl}
use Rattle.bounds.proofs.sizes.has_room.Goals as goal

pub returns-then-t-room : goal.returns-then-t-room
returns-then-t-room c = room_enough c.args.left c.args.t.now c.args.room c.requires c.if-t-room.true

pub returns : goal.returns
returns c =
    room_measured c.args.left c.args.t.now c.args.room c.requires _ _ c.measure-m.ensures _ refl
