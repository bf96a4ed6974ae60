-- `bytes` meets its contract: the piece is copied into its place. Assumes nothing.
use native.Mathlib.Omega.{arith}
use Prim.Native.Nat.{◌+◌, ◌-◌, ◌≤◌}
use mathlib.Core.Path.{refl}
use lib.ListN.{length, drop, length-drop}
use Rattle.std.proofs.Common.{length-take-le}
use borrow.Rule.Slice.PartMut.{same_len_mid}
use Rattle.std.proofs.lemmas.Slice.{take-put_mid, drop-put_mid}
use Rattle.text.proofs.put.Writer.bytes.Goals as goal

pub returns : goal.returns
returns c =
    let w = c.args.self.now in
    let bytes = w.text.now in
    let piece = c.args.piece.now in
    let n = w.at + length piece - w.at in
    let room : w.at + n ≤ length bytes = omega (arith, c.requires) in
    rw c.copy_from_slice.ensures.after (record {
      lent = refl;
      next = refl;
      front = take-put_mid w.at n bytes piece _ (omega arith) (omega arith);
      behind = λ m l. drop-put_mid w.at n bytes piece m (omega arith) (omega arith) (omega arith);
      same = same_len_mid w.at n bytes piece (omega (arith, length-take-le n (drop w.at bytes) (omega (arith, length-drop w.at bytes))));
    })
