use Rattle.caltool.specs.Calls.Calls.{no_more}
use Rattle.caltool.proofs.run.make_room.Goals as goal

pub returns-else-not-has_room_for_a_reply-clause-writes : goal.returns-else-not-has_room_for_a_reply-clause-writes
returns-else-not-has_room_for_a_reply-clause-writes g c = no_more _ _
