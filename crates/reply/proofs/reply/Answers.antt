-- `reply::reply` meets its contract: what is handed on is the reply, put together in 128 bytes. Assumes nothing.
use lib.Dec.{lit≤}
use Rattle.text.proofs.Writing.{wrote_same}
use Rattle.reply.proofs.Held.{put_whole, reply_written, reply_held, end_inside, end_is_length}
use Rattle.reply.proofs.reply.Goals as goal

pub unwrap-end-requires : goal.unwrap-end-requires
unwrap-end-requires c = reply_written _ (lit≤ tt) (put_whole _ (lit≤ tt) c.request_of.ensures c.put_reply.ensures)

pub slice_bounds-lines-end : goal.slice_bounds-lines-end
slice_bounds-lines-end c = end_inside _ (lit≤ tt) (put_whole _ (lit≤ tt) c.request_of.ensures c.put_reply.ensures) c.unwrap-end.ensures

pub slice_bounds-write_bytes-end : goal.slice_bounds-write_bytes-end
slice_bounds-write_bytes-end c = end_is_length _ (lit≤ tt) (put_whole _ (lit≤ tt) c.request_of.ensures c.put_reply.ensures) c.unwrap-end.ensures

pub returns : goal.returns
returns c =
    wrote_same (reply_held _ (lit≤ tt) (put_whole _ (lit≤ tt) c.request_of.ensures c.put_reply.ensures) c.unwrap-end.ensures) c.write_bytes.ensures
