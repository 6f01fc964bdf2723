use Rattle.std.proofs.Common.{◌≡◌, ◌*◌, ◌%◌, ◌^◌, ◌<◌, length, get_or, arith}
use Rattle.std.proofs.lemmas.Nat.{one_shl}
use Rattle.positions.proofs.Adding.{adds_same, adds_row}
use Rattle.positions.proofs.meeting.Meetings.add.Goals as goal

pub returns-then-all-self : goal.returns-then-all-self
returns-then-all-self c =
    let bit : 1 * 2 ^ c.args.p % 2 ^ 64 ≡ 2 ^ c.args.p = one_shl c.args.p 64 c.requires in
    let long : length c.args.self.now.known ≡ 64 = omega arith in
    let fits : get_or c.args.self.now.known c.args.p 0 < 2 ^ 64 = omega arith in
    rw bit (adds_row c.args.self.now c.args.p c.args.set c.requires long fits c.if-all-self.true)

pub returns-else-all-self : goal.returns-else-all-self
returns-else-all-self c = adds_same c.args.self.now c.args.p c.args.set c.requires c.if-all-self.false
