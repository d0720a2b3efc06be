use Rattle.std.proofs.Common.{◌≡◌, ◌+◌, ◌*◌, ◌^◌, ◌≤◌, ◌<◌, length, take}
use Rattle.neg_print.specs.Total.{limb_number}
use Rattle.neg_print.proofs.sum.add_limbs.Given as goal

abbrev pub invariant-loop-i : goal.invariant-loop-i
invariant-loop-i l = record {
  room : length l.out ≡ 4;
  small : limb_number (take l.i l.out) < 18446744073709551616 ^ l.i;
  carried : l.carry ≤ 1;
  so_far : limb_number (take l.i l.out) + 18446744073709551616 ^ l.i * l.carry ≡ limb_number (take l.i l.a) + limb_number (take l.i l.b);
}
