-- `cases::agrees` has room for every reply. Assumes nothing.
use lib.Dec.{lit≤}
use Rattle.reply.proofs.Held.{reply_written}
use Rattle.cases.proofs.agrees.Goals as goal

pub unwrap-end-requires : goal.unwrap-end-requires
unwrap-end-requires g c = reply_written _ (lit≤ tt) c.reply.ensures
