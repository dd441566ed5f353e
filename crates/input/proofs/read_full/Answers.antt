-- `input::read_full` meets its contract: what a read puts behind the bytes that are there goes on with them. Assumes nothing.
use Rattle.std.proofs.Common.{◌≡◌, ℕ, ◌+◌, ◌≤◌, List, ◌++◌, length, take, rules, sym, ap, ◌∙◌}
use Rattle.std.proofs.lemmas.List.{take-append-le, length-take-le}
use Rattle.std.proofs.Math.Seq.{take-append-add}
use Rattle.std.proofs.KnownBytes.{Consumes-trans}
use borrow.Rule.Slice.PartMut.{put_mid, post_of}
use Rattle.input.proofs.read_full.Goals as goal

-- what a write to the part from a on leaves at the front
take-put_mid_on : (a k m : ℕ) (xs ys : List ℕ) → a ≤ length xs → m ≤ length ys → take (a + m) (put_mid a k xs ys) ≡ take a xs ++ take m ys
take-put_mid_on a k m xs ys h g =
    ap (λ n. take (n + m) (put_mid a k xs ys)) (sym (length-take-le a xs h)) ∙
    take-append-add (take a xs) (ys ++ post_of a k xs) m ∙
    ap (λ l. take a xs ++ l) (take-append-le m ys (post_of a k xs) g)

pub loop-done-preserved : goal.loop-done-preserved
loop-done-preserved g c = record {
  within = search rules;
  bytes = rw (take-put_mid_on c.loop-done.done _ c.in-Ok.more c.loop-done.buf c.read.new.buf c.loop-done.invariant.within c.in-Ok.ensures.bound.0)
      (Consumes-trans _ _ _ _ _ c.loop-done.invariant.bytes c.in-Ok.ensures.bytes.0);
}
