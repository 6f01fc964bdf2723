-- What a play answers and what it does to its doer. Assumes nothing.
use Rattle.std.specs.Prelude.{◌≡◌, ℕ, ◌≤◌, true, List, ◌∷◌, ◌++◌, length, None, Ok, Err, Result}
use Rattle.meaning.specs.Bounds.{longest_extent}
use Rattle.meaning.specs.Words.{Line}
use Rattle.meaning.specs.Doers.{Given, Rule, Leads}
use Rattle.meaning.specs.Runs.{Refusal as Report, Answer, refused, played, Account, Mean, Refuses, Plays}
use Rattle.sheet.specs.declared.refusal.Refusal.{Refusal}
use Rattle.sheet.specs.Refusals.{reported}
use Rattle.reading.specs.declared.cutting.Why.{Why}
use Rattle.reading.specs.Answers.{why_number}

-- what a play answers: its four numbers, or the refusal
abbrev pub play_answer : Result (ℕ × ℕ × ℕ × Why) Refusal → Answer
play_answer (Ok a) = played a.0 a.1 a.2 (why_number a.3)
play_answer (Err f) = refused (reported f)

-- what becomes of codes that are offered in order, and how many are taken: all of them, or those before the first that the rule turns away
pub data Offered {S : Type 0} (rule : Rule S) (s : S) (gs : List Given) : ℕ → S → Type 0 where
  all : {t : S} → Leads rule s gs t → Offered rule s gs (length gs) t
  some : {t : S} {gone : List Given} {g : Given} (rest : List Given) → gs ≡ gone ++ g ∷ rest → Leads rule s gone t → rule t g.code g.mark ≡ None → Offered rule s gs (length gone) t

-- what a play of an extent, by its classes, answers on a plate with this account, and the doer's state before and after: a refusal leaves it, and a play leads it through what is given
pub data Performed {S : Type 0} (rule : Rule S) (a : Account) (extent : List ℕ) (s : S) : Answer → S → Type 0 where
  refuses : {f : Report} → Refuses a extent f → Performed rule a extent s (refused f) s
  performs : {gs : List Given} {pieces place codes why : ℕ} {t : S} (ls : List Line) → a.built ≡ true → length extent ≤ longest_extent → Mean a.texts ls → Plays rule ls extent 0 s gs pieces place codes why t → Performed rule a extent s (played pieces place codes why) t
