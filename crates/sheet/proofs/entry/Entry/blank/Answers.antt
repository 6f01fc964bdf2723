use Rattle.std.proofs.Common.{arith}
use Rattle.sheet.proofs.Recording.{blank_line, blank_drafted, blank_records}
use Rattle.sheet.proofs.entry.Entry.blank.Goals as goal

pub invariant_of-result : goal.invariant_of-result
invariant_of-result c = record {
  some = omega arith;
  short = omega arith;
  is = ∣ (blank_line, blank_records _ c.new-2.result c.copied.ensures (c.new-2.ensures blank_line (blank_drafted c.new.result c.new.ensures.count c.new.ensures.follow))) ∣₁;
}
