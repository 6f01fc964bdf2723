-- One call of a run, from what the calls of a plate promise.
use Rattle.std.proofs.Common.{◌≡◌, ℕ, zero, suc, ◌≤◌, false, List, [], ◌∷◌, Ok, Err, Result, sym, refl, ap, ◌∙◌, subst, ⊎_elim, append-nil, arith, MatchResult}
use Rattle.std.specs.Result.{IsOkAnd, result_map_both}
use Rattle.std.proofs.lemmas.Bool.{cases_eq}
use Rattle.std.proofs.lemmas.Result.{MatchResult-at_err}
use Rattle.meaning.specs.declared.Piece.{Piece}
use Rattle.meaning.specs.Doers.{Given, Rule, Leads}
use Rattle.meaning.specs.Runs.{Refusal, plain, Answer, answer_no, Account, fresh, open_for, Listed, Step, reads, refuses_play, plays, Called, away, heard}
use Rattle.meaning.specs.Asked.{Asked, ask_take, ask_strike, ask_build, ask_read, ask_play, gathered, Reply, no_for, told}
use Rattle.sheet.specs.declared.refusal.Refusal.{Refusal as Declines}
use Rattle.sheet.specs.declared.refusal.Refusal.TheVariants.{NotOpen}
use Rattle.plate.specs.declared.desk.Desk.{Desk}
use Rattle.plate.specs.Desks.{texts_of, account_of, answer_of, is_built}
use Rattle.reading.specs.declared.cutting.Why.{Why}
use Rattle.reading.specs.Answers.{read_answer}
use Rattle.playing.specs.Performances.{play_answer, Performed, refuses, performs}
use Rattle.meaning.proofs.Answered.{leads_append, play_leads}
use Rattle.runs.specs.declared.calling.Reply.{Reply as Tells}
use Rattle.runs.specs.declared.calling.Reply.TheVariants.{Number, Read, Played}
use Rattle.runs.specs.Asking.{reply_of, with_list, plate_of, lent, Left, Made}

-- a plate is open for a count that is not 0 where its desk has that count
pub open_at : (n count : ℕ) → 1 ≤ count → n ≡ count → plate_of n ≡ open_for count
open_at zero count some e = absurd (omega arith)
open_at (suc n) count some e = ap open_for e

not_open_at : (n count : ℕ) → 1 ≤ count → (n ≡ count → ⊥) → plate_of n ≡ open_for count → ⊥
not_open_at zero count some other e = let z : ◌≡◌ {A = ℕ} 0 1 = cc in omega arith
not_open_at (suc n) count some other e = other (cc)

-- what the caller is told of a call that is refused
told_no : (q : Asked) (list : List Piece) (f : Refusal) → told (answer_no (lent q list) f) ≡ no_for f
told_no (ask_take t) list f = refl
told_no ask_strike list f = refl
told_no ask_build list f = refl
told_no (ask_read extent room) list f = refl
told_no (ask_play extent) list f = refl

left_no : (q : Asked) (list : List Piece) (f : Refusal) → Left q list (answer_no (lent q list) f) list
left_no (ask_take t) list f = (refl, refl)
left_no ask_strike list f = (refl, refl)
left_no ask_build list f = (refl, refl)
left_no (ask_read extent room) list f = append-nil list
left_no (ask_play extent) list f = (refl, refl)

-- what `map` makes of a result, where its closure gives f
pub mapped : {X Y E : Type 0} (f : X → Y) {P : X → Y → Type 0} (r : Result X E) (a : Result Y E) → ((x : X) (y : Y) → P x y → y ≡ f x)
    → MatchResult r (λ x. IsOkAnd a (P x)) (λ e. a ≡ Err e) → a ≡ result_map_both f (λ e. e) r
mapped f (Ok x) (Ok y) gives h = ap Ok (gives x y h)
mapped f (Ok x) (Err e) gives h = absurd h
mapped f (Err e) a gives h = h

-- the answers of a read and of a play, by what the crates below answer
pub read_mapped : (list : List Piece) (r : Result (ℕ × ℕ × Why) Declines) → with_list list (result_map_both (λ a. Read a.0 a.1 a.2) (λ e. e) r) ≡ read_answer list r
read_mapped list (Ok a) = refl
read_mapped list (Err f) = refl

pub play_mapped : (r : Result (ℕ × ℕ × ℕ × Why) Declines) → reply_of (result_map_both (λ a. Played a.0 a.1 a.2 a.3) (λ e. e) r) ≡ told (play_answer r)
play_mapped (Ok a) = refl
play_mapped (Err f) = refl

-- what take, strike and build tell, with no list
told_number : (r : Result ℕ Declines) → reply_of (result_map_both Number (λ e. e) r) ≡ told (answer_of r)
told_number (Ok n) = refl
told_number (Err f) = refl

pub none_listed : (r : Result ℕ Declines) → gathered (answer_of r ∷ []) ≡ []
none_listed (Ok n) = refl
none_listed (Err f) = refl

-- what a read tells, and its list
told_read : (list : List Piece) (r : Result Tells Declines) → reply_of r ≡ told (with_list list r)
told_read list (Ok (Number n)) = refl
told_read list (Ok (Read pieces place why)) = refl
told_read list (Ok (Played pieces place codes why)) = refl
told_read list (Err f) = refl

read_listed : {a : Account} {extent : List ℕ} {list : List Piece} (list' : List Piece) (r : Result Tells Declines) → Listed a extent list (with_list list' r) → gathered (with_list list' r ∷ []) ≡ list'
read_listed list' (Ok (Number n)) h = elim h [ ]
read_listed list' (Ok (Read pieces place why)) h = append-nil list'
read_listed list' (Ok (Played pieces place codes why)) h = elim h [ ]
read_listed list' (Err f) h = append-nil list'

-- a desk and cells that are as they were
account_same : (d d' : Desk) (moves moves' sets sets' : List ℕ) (h : List Given) → d' ≡ d → moves' ≡ moves → sets' ≡ sets → account_of d' moves' sets' h ≡ account_of d moves sets h
account_same d d' moves moves' sets sets' h e m s = cc

-- what holds of an account holds with equal cells
pub with_cells : (P : Account → Type 0) (d : Desk) (moves moves' sets sets' : List ℕ) (h : List Given) → (moves' ≡ moves) × (sets' ≡ sets) → P (account_of d moves sets h) → P (account_of d moves' sets' h)
with_cells P d moves moves' sets sets' h (m, s) x = rw (m, s) x

-- the account of a plate that was just opened
pub account_fresh : (d : Desk) (moves sets : List ℕ) → texts_of d ≡ [] → is_built d ≡ false → account_of d moves sets [] ≡ fresh moves sets
account_fresh d moves sets e b = cc

module _ (count : ℕ) (some : 1 ≤ count) {S : Type 0} (rule : Rule S) (first : S) where
  -- on a plate of another count: refused 25, and nothing is changed
  made_away : (n : ℕ) (before : Account) (after : List Given → Account) (q : Asked) (list list' : List Piece) (reply : Reply) (h : List Given) (t : S) → (n ≡ count → ⊥) → after h ≡ before
      → list' ≡ list → reply ≡ no_for (plain 25 3) → Leads rule first h t → Made count rule first n before q list reply after list' t
  made_away n before after q list list' reply h t other same_account same_list e led =
      let answer : Answer = answer_no (lent q list) (plain 25 3) in
      record {
        answer = answer;
        history = h;
        called = subst (λ b. Called count rule first (plate_of n) before (lent q list) answer b) (sym same_account) (away (lent q list) (not_open_at n count some other));
        same_reply = e ∙ sym (told_no q list (plain 25 3));
        same_list = subst (λ x. Left q list answer x) (sym same_list) (left_no q list (plain 25 3));
        leads = led;
      }

  -- on a plate of the call's count: the call's own step
  made_heard : (n : ℕ) (before : Account) (after : List Given → Account) (q : Asked) (list list' : List Piece) (reply : Reply) (answer : Answer) (h : List Given) (t : S) → n ≡ count
      → Step count rule first before (lent q list) answer (after h) → reply ≡ told answer → Left q list answer list' → Leads rule first h t → Made count rule first n before q list reply after list' t
  made_heard n before after q list list' reply answer h t e step same_reply same_list led =
      record { answer = answer; history = h; called = heard (open_at n count some e) step; same_reply = same_reply; same_list = same_list; leads = led }

  module _ (d d' : Desk) (moves moves' sets sets' : List ℕ) where
    -- refused 25: nothing is changed
    abbrev Unheard : Result ℕ Declines → Type 0
    Unheard r = (d.count ≡ count → ⊥) → (r ≡ Err NotOpen) × (d' ≡ d) × (moves' ≡ moves) × (sets' ≡ sets)

    -- of a call that leaves the cells, and the desk where it is refused
    pub unheard : (P : ℕ → Type 0) (r : Result ℕ Declines) → ((d.count ≡ count → ⊥) → r ≡ Err NotOpen) → MatchResult r P (λ _. d' ≡ d)
        → (moves' ≡ moves) × (sets' ≡ sets) → Unheard r
    unheard P r not_heard kept cells n = (not_heard n, MatchResult-at_err P (λ _. d' ≡ d) NotOpen (not_heard n) kept, cells.0, cells.1)

    -- a call whose answer is a number or a refusal
    pub numbered_made : (q : Asked) (list : List Piece) (answer : Result Tells Declines) (r : Result ℕ Declines) (h : List Given) (s : S) → answer ≡ result_map_both Number (λ e. e) r
        → Left q list (answer_of r) list → Unheard r → (d.count ≡ count → Step count rule first (account_of d moves sets h) (lent q list) (answer_of r) (account_of d' moves' sets' h))
        → Leads rule first h s → Made count rule first d.count (account_of d moves sets h) q list (reply_of answer) (account_of d' moves' sets') list s
    numbered_made q list answer r h s e left not_heard hears led =
        ⊎_elim (λ here. made_heard d.count _ (account_of d' moves' sets') q list list (reply_of answer) (answer_of r) h s here (hears here) (ap reply_of e ∙ told_number r) left led)
        (λ other.
        let (turned, kept, m, n) = not_heard other in
        made_away d.count _ (account_of d' moves' sets') q list list (reply_of answer) h s other (account_same d d' moves moves' sets sets' h kept m n) refl
        (ap reply_of e ∙ ap (λ x. reply_of (result_map_both Number (λ e. e) x)) turned) led)
        (cases_eq d.count count)

  module _ (d : Desk) (moves sets : List ℕ) where
    -- a read changes only its list
    pub read_made : (extent : List ℕ) (room : ℕ) (list list' : List Piece) (answer : Result Tells Declines) (h : List Given) (s : S)
        → ((d.count ≡ count → ⊥) → (answer ≡ Err NotOpen) × (list' ≡ list)) → (d.count ≡ count → Listed (account_of d moves sets h) extent list (with_list list' answer))
        → Leads rule first h s → Made count rule first d.count (account_of d moves sets h) (ask_read extent room) list (reply_of answer) (account_of d moves sets) list' s
    read_made extent room list list' answer h s not_heard hears led =
        ⊎_elim
        (λ here. made_heard d.count _ (account_of d moves sets) (ask_read extent room) list list' (reply_of answer) (with_list list' answer) h s here (reads (hears here)) (told_read list' answer)
        (read_listed list' answer (hears here)) led)
        (λ other. made_away d.count _ (account_of d moves sets) (ask_read extent room) list list' (reply_of answer) h s other refl (not_heard other).1 (ap reply_of (not_heard other).0) led)
        (cases_eq d.count count)

    -- a play: refused, it changes nothing, and else it adds what it gave
    performed : (extent : List ℕ) (list : List Piece) (answer : Answer) (h : List Given) (s t : S) → d.count ≡ count → Performed rule (account_of d moves sets h) extent s answer t → Leads rule first h s
        → Made count rule first d.count (account_of d moves sets h) (ask_play extent) list (told answer) (account_of d moves sets) list t
    performed extent list answer h s t here (refuses why_not) led =
        made_heard d.count _ (account_of d moves sets) (ask_play extent) list list _ _ h s here (refuses_play why_not) refl (refl, refl) led
    performed extent list answer h s t here (performs ls built short mean play) led =
        made_heard d.count _ (account_of d moves sets) (ask_play extent) list list _ _ _ t here (plays ls built short mean led play) refl (refl, refl) (leads_append _ led (play_leads _ play))

    pub play_made : (extent : List ℕ) (list : List Piece) (r : Result (ℕ × ℕ × ℕ × Why) Declines) (reply : Reply) (h : List Given) (s t : S) → reply ≡ told (play_answer r)
        → ((d.count ≡ count → ⊥) → (r ≡ Err NotOpen) × (t ≡ s)) → (d.count ≡ count → Performed rule (account_of d moves sets h) extent s (play_answer r) t)
        → Leads rule first h s → Made count rule first d.count (account_of d moves sets h) (ask_play extent) list reply (account_of d moves sets) list t
    play_made extent list r reply h s t e not_heard hears led =
        subst (λ x. Made count rule first d.count (account_of d moves sets h) (ask_play extent) list x (account_of d moves sets) list t) (sym e)
        (⊎_elim (λ here. performed extent list (play_answer r) h s t here (hears here) led)
        (λ other.
        let (turned, still) = not_heard other in
        made_away d.count _ (account_of d moves sets) (ask_play extent) list list (told (play_answer r)) h t other refl refl (ap (λ x. told (play_answer x)) turned)
        (subst (λ x. Leads rule first h x) (sym still) led))
        (cases_eq d.count count))
