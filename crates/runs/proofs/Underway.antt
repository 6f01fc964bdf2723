-- What holds of a run after any number of its calls.
use Rattle.std.proofs.Common.{◌≡◌, ℕ, ◌+◌, ◌-◌, ◌≤◌, min, List, [], ◌∷◌, ◌++◌, map, length, take, drop, sym, refl, ap, ◌∙◌, subst, append_assoc, arith, length-append, length-drop, take-append-drop, length-take}
use lib.ListN.{length-map}
use Rattle.std.proofs.lemmas.List.{map-append, take_at, drop_at, drop-drop, take_min, drop_min}
use Rattle.meaning.specs.declared.Piece.{Piece}
use Rattle.meaning.specs.Doers.{Given, Rule, Leads, stays}
use Rattle.meaning.specs.Runs.{Call, Answer, Account, fresh, Plate, Opens, Called, Run, opened, then, Kept}
use Rattle.meaning.specs.Asked.{Asked, ask_take, ask_strike, ask_build, ask_read, ask_play, dealt, gathered, Reply, told, Ran}
use Rattle.runs.specs.Asking.{plate_of, lent, Left, Made}
use Rattle.runs.proofs.Dealing.{room_of, left_of, dealt_more, left_more, gathered_more}

-- the calls so far, with what they told, the cells of the lists up to `used`, and the doer's state
pub record Running (count : ℕ) {S : Type 0} (rule : Rule S) (first : S) (plate : Plate) (start : Account) (asked : List Asked) (lists : List Piece) (replies : List Reply)
    (after : List Given → Account) (s : S) (used : ℕ) (lists' : List Piece) : Type 0 where
  pub all : List Answer
  pub history : List Given
  pub run : Run count rule first plate start (dealt asked lists) all (after history)
  pub replied : replies ≡ map told all
  pub written : take used lists' ≡ gathered all
  pub behind : drop used lists' ≡ drop used lists
  pub left : left_of asked lists ≡ drop used lists'
  pub within : used ≤ length lists'
  pub leads : Leads rule first history s

-- cells of which none is asked for are no part of a list
part_listed : (q : Asked) (answer : Answer) (part part' : List Piece) → length part ≤ room_of q → Left q part answer part' → gathered (answer ∷ []) ≡ part'
part_listed (ask_take t) answer [] part' h l = l.0 ∙ sym l.1
part_listed (ask_take t) answer (p ∷ part) part' h l = absurd (omega arith)
part_listed ask_strike answer [] part' h l = l.0 ∙ sym l.1
part_listed ask_strike answer (p ∷ part) part' h l = absurd (omega arith)
part_listed ask_build answer [] part' h l = l.0 ∙ sym l.1
part_listed ask_build answer (p ∷ part) part' h l = absurd (omega arith)
part_listed (ask_read extent room) answer part part' h l = l
part_listed (ask_play extent) answer [] part' h l = l.0 ∙ sym l.1
part_listed (ask_play extent) answer (p ∷ part) part' h l = absurd (omega arith)

module _ (count : ℕ) {S : Type 0} (rule : Rule S) (first : S) where
  -- a run on the plate that was opened is kept
  pub run_kept : {plate : Plate} {moves sets zero_moves zero_sets moves' sets' : List ℕ} {calls : List Call} {all : List Answer} {history : List Given} {after : Account} {s : S}
      → Opens count moves sets plate zero_moves zero_sets → Run count rule first plate (fresh zero_moves zero_sets) calls all after → Leads rule first history s
      → (after.history ≡ history) × (moves' ≡ after.moves) × (sets' ≡ after.sets) → Kept count rule first moves sets calls all moves' sets' s
  run_kept {plate} {zero_moves = zero_moves} {zero_sets} {after = after} {s} opening run leads same = record {
    plate = plate;
    zero_moves = zero_moves;
    zero_sets = zero_sets;
    opening = opening;
    account = after;
    run = run;
    same_moves = same.1;
    same_sets = same.2;
    leads = subst (λ h. Leads rule first h s) (sym same.0) leads;
  }

  -- before the first call
  pub running_none : (plate : Plate) (moves sets : List ℕ) (lists : List Piece) (after : List Given → Account) → after [] ≡ fresh moves sets
      → Running count rule first plate (fresh moves sets) [] lists [] after first 0 lists
  running_none plate moves sets lists after e = record {
    all = [];
    history = [];
    run = subst (λ z. Run count rule first plate (fresh moves sets) [] [] z) (sym e) opened;
    replied = refl;
    written = refl;
    behind = refl;
    left = refl;
    within = omega arith;
    leads = stays;
  }

  module _ (plate : Plate) (start : Account) (asked : List Asked) (lists : List Piece) (replies : List Reply) (after : List Given → Account) (s : S) (used : ℕ) (lists' : List Piece)
      (now : Running count rule first plate start asked lists replies after s used lists') (desk_count : ℕ) (same_plate : plate ≡ plate_of desk_count)
      (q : Asked) (k : ℕ) (cells : k ≡ min (room_of q) (length lists' - used)) (part part' : List Piece) (lent_part : part ≡ take k (drop used lists')) (kept : length part' ≡ length part) where
    all_left : length (drop used lists') ≡ length lists' - used
    all_left = length-drop used lists'

    these : k ≡ min (room_of q) (length (drop used lists'))
    these = cells ∙ ap (λ n. min (room_of q) n) (sym all_left)

    part_is : part ≡ take (room_of q) (left_of asked lists)
    part_is = lent_part ∙ ap (λ n. take n (drop used lists')) these ∙ take_min (room_of q) (drop used lists') ∙ ap (take (room_of q)) (sym now.left)

    many : length part' ≡ k
    many = kept ∙ ap length lent_part ∙ length-take k (drop used lists') ∙ omega (arith, these)

    -- one call more
    pub running_more : (asked' : List Asked) (replies' : List Reply) (lists'' : List Piece) (reply : Reply) (after' : List Given → Account) (t : S)
        → asked' ≡ asked ++ q ∷ [] → replies' ≡ replies ++ reply ∷ [] → lists'' ≡ take used lists' ++ (part' ++ drop k (drop used lists'))
        → ((h : List Given) → Leads rule first h s → Made count rule first desk_count (after h) q part reply after' part' t)
        → Running count rule first plate start asked' lists replies' after' t (used + k) lists''
    running_more asked' replies' lists'' reply after' t more_asked more_replies same makes =
        let made = makes now.history now.leads in
        let listed : gathered (made.answer ∷ []) ≡ part' = part_listed q made.answer part part' (omega (arith, these, many, kept)) made.same_list in
        let front : length (take used lists' ++ part') ≡ used + k = length-append (take used lists') part' ∙ omega (arith, length-take used lists', many, now.within) in
        let whole : lists'' ≡ (take used lists' ++ part') ++ drop k (drop used lists') = same ∙ sym (append_assoc (take used lists') part' (drop k (drop used lists'))) in
        let rest : drop (used + k) lists'' ≡ drop k (drop used lists') = ap (drop (used + k)) whole ∙ drop_at (take used lists' ++ part') (drop k (drop used lists')) (used + k) front in
        record {
          all = now.all ++ made.answer ∷ [];
          history = made.history;
          run = then (lent q part) made.answer now.run (subst (λ p. Called count rule first p (after now.history) (lent q part) made.answer (after' made.history)) (sym same_plate) made.called)
              (ap (λ qs. dealt qs lists) more_asked ∙ dealt_more asked q lists ∙ ap (λ l. dealt asked lists ++ lent q l ∷ []) (sym part_is)) refl;
          replied = more_replies ∙ ap (λ rs. rs ++ reply ∷ []) now.replied ∙ ap (λ r. map told now.all ++ r ∷ []) made.same_reply ∙ sym (map-append told now.all (made.answer ∷ []));
          written = ap (take (used + k)) whole ∙ take_at (take used lists' ++ part') (drop k (drop used lists')) (used + k) front ∙ ap (λ l. l ++ part') now.written
              ∙ ap (λ l. gathered now.all ++ l) (sym listed) ∙ sym (gathered_more now.all made.answer);
          behind = rest ∙ ap (drop k) now.behind ∙ drop-drop k used lists;
          left = ap (λ qs. left_of qs lists) more_asked ∙ left_more asked q lists ∙ ap (drop (room_of q)) now.left ∙ sym (drop_min (room_of q) (drop used lists')) ∙ ap (λ n. drop n (drop used lists')) (sym these) ∙ sym rest;
          within = omega (arith, front, ap length whole, length-append (take used lists' ++ part') (drop k (drop used lists')));
          leads = made.leads;
        }

  -- after the last call
  pub running_ran : (plate : Plate) (moves sets zero_moves zero_sets : List ℕ) (asked calls : List Asked) (lists : List Piece) (replies : List Reply) (after : List Given → Account) (s : S)
      (used : ℕ) (lists' : List Piece) (answers answers' : List Reply) (moves' sets' : List ℕ) → Opens count moves sets plate zero_moves zero_sets
      → Running count rule first plate (fresh zero_moves zero_sets) asked lists replies after s used lists'
      → asked ≡ take (length answers) calls → answers' ≡ replies ++ drop (length replies) answers
      → ((h : List Given) → ((after h).history ≡ h) × (moves' ≡ (after h).moves) × (sets' ≡ (after h).sets))
      → Ran count rule first moves sets calls lists answers moves' sets' s lists' answers'
  running_ran plate moves sets zero_moves zero_sets asked calls lists replies after s used lists' answers answers' moves' sets' opening end all_Asked all_answered same =
      let many : length replies ≡ length end.all = ap length end.replied ∙ length-map end.all told in
      let cells : used ≡ length (gathered end.all) = omega (arith, ap length end.written, length-take used lists', end.within) in
      record {
        all = end.all;
        kept = subst (λ qs. Kept count rule first moves sets (dealt qs lists) end.all moves' sets' s) all_Asked (run_kept opening end.run end.leads (same end.history));
        same_answers = all_answered ∙ ap (λ rs. rs ++ drop (length replies) answers) end.replied ∙ ap (λ n. map told end.all ++ drop n answers) many;
        same_lists = sym (take-append-drop used lists') ∙ ap (λ l. l ++ drop used lists') end.written ∙ ap (λ l. gathered end.all ++ l) end.behind
            ∙ ap (λ n. gathered end.all ++ drop n lists) cells;
      }
