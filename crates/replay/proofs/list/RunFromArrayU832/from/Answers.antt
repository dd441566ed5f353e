-- A run is made of 32 bytes: each number is read of what the ones before it left. Assumes nothing.
use Rattle.std.proofs.Common.{rules}
use Rattle.replay.proofs.Left.{left}
use Rattle.replay.proofs.list.RunFromArrayU832.from.Goals as goal

pub get_u16_le-requires : goal.get_u16_le-requires
get_u16_le-requires c = left _ 4 2 c.get_u32_le-2.ensures.rest (left _ 4 6 c.get_u32_le.ensures.rest (left _ 8 10 c.get_u64_le-2.ensures.rest (left c.args.bytes 8 18 c.get_u64_le.ensures.rest (search rules))))

pub get_u8-requires : goal.get_u8-requires
get_u8-requires c = left _ 2 1 c.get_u16_le.ensures.rest (left _ 4 3 c.get_u32_le-2.ensures.rest (left _ 4 7 c.get_u32_le.ensures.rest (left _ 8 11 c.get_u64_le-2.ensures.rest (left c.args.bytes 8 19 c.get_u64_le.ensures.rest (search rules)))))

pub get_u8-requires-2 : goal.get_u8-requires-2
get_u8-requires-2 c = left _ 1 1 c.get_u8.ensures.rest (left _ 2 2 c.get_u16_le.ensures.rest (left _ 4 4 c.get_u32_le-2.ensures.rest (left _ 4 8 c.get_u32_le.ensures.rest (left _ 8 12 c.get_u64_le-2.ensures.rest (left c.args.bytes 8 20 c.get_u64_le.ensures.rest (search rules))))))

pub get_u8-requires-3 : goal.get_u8-requires-3
get_u8-requires-3 c = left _ 1 1 c.get_u8-2.ensures.rest (left _ 1 2 c.get_u8.ensures.rest (left _ 2 3 c.get_u16_le.ensures.rest (left _ 4 5 c.get_u32_le-2.ensures.rest (left _ 4 9 c.get_u32_le.ensures.rest (left _ 8 13 c.get_u64_le-2.ensures.rest (left c.args.bytes 8 21 c.get_u64_le.ensures.rest (search rules)))))))
