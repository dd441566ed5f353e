-- `root::main` writes the part of its buffer up to the end of the reply, which fits. Assumes nothing.
use lib.Dec.{lit≤}
use Rattle.reply.proofs.Held.{reply_written, end_inside, end_is_length}
use Rattle.reply.proofs.Cut.{own_reply}
use Rattle.root.proofs.main.Goals as goal

pub unwrap-end-requires : goal.unwrap-end-requires
unwrap-end-requires c = reply_written _ (lit≤ tt) (own_reply c.reply_to_window.ensures)

pub slice_bounds-out-end : goal.slice_bounds-out-end
slice_bounds-out-end c = end_inside _ (lit≤ tt) (own_reply c.reply_to_window.ensures) c.unwrap-end.ensures

pub slice_bounds-write_all-end : goal.slice_bounds-write_all-end
slice_bounds-write_all-end c = end_is_length _ (lit≤ tt) (own_reply c.reply_to_window.ensures) c.unwrap-end.ensures
