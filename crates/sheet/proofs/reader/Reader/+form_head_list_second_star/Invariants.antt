use Rattle.std.proofs.Common.{◌+◌, ◌-◌, ◌*◌, length}
use Rattle.sheet.proofs.reader.Reader.+form_head_list_second_star.Given as goal

-- each call is four for each byte that is left, and less where it stands deeper in a byte's turn
abbrev pub decreases-form : goal.decreases-form
decreases-form l = 4 * (length l.self.now.text.now - l.self.now.at)

abbrev pub decreases-head : goal.decreases-head
decreases-head l = 4 * (length l.self.now.text.now - l.self.now.at) + 3

abbrev pub decreases-second : goal.decreases-second
decreases-second l = 4 * (length l.self.now.text.now - l.self.now.at) + 3

abbrev pub decreases-list : goal.decreases-list
decreases-list l = 4 * (length l.self.now.text.now - l.self.now.at) + 1

abbrev pub decreases-star : goal.decreases-star
decreases-star l = 4 * (length l.self.now.text.now - l.self.now.at) + 2
