-- Every call has an answer, and every run an outcome: on accounts that runs reach no case is left out. Assumes nothing.
use Rattle.std.proofs.Common.{◌≡◌, ℕ, ◌+◌, ◌*◌, ◌<◌, ◌≤◌, true, ◌⊎◌, List, [], ◌∷◌, ◌++◌, length, drop, replicate, sym, refl, ap, ◌∙◌, subst, inl, inr, append_assoc, append-nil, arith, length-append, length-drop}
use mathlib.Core.Logic.Dec
use native.Mathlib.Decide.{ℕ_discrete, dec_le}
use lib.ListN.{length-replicate}
use Rattle.std.proofs.lemmas.Bool.{cases_lt, cases_Bool, both_ways}
use Rattle.meaning.specs.Bounds.{longest_extent}
use Rattle.meaning.specs.Words.{Line, Each, Clash, line_codes}
use Rattle.meaning.specs.declared.Piece.{Piece}
use Rattle.meaning.specs.Pieces.{Nth}
use Rattle.meaning.specs.Doers.{Given, Rule, Leads, stays, takes as leads_on}
use Rattle.meaning.specs.Runs.{Call, take_line, strike_line, build_plate, read_extent, play_extent, Answer, Account, Mean, fresh, cleared, Plate, shut, open_for, Room, opens, TextAccepted, eight, turned_down, added, none_stands, struck, empty, large, made, Plays, at_end, no_piece, broken, whole, unbuilt, long, refuses, read_out, Step, takes, strikes, builds, reads, refuses_play, plays, heard, Run, opened, then, Kept}
use Rattle.meaning.specs.Tests.{Verdict, Tested, unbuilt as not_built, long as too_long, no_line, few_cells, a_word, no_word, Tests, away, heard as tested}
use Rattle.meaning.specs.Positions.{has, end_mark, first_set, move_all}
use Rattle.meaning.specs.ReadLaws.{AllClear}
use Rattle.meaning.proofs.Judged.{text_judged}
use Rattle.meaning.proofs.Counting.{at_most_or_more}
use Rattle.meaning.proofs.Tabled.{tables, moves_from, sets_from}
use Rattle.meaning.proofs.Outcomes.{reading_found, play_found}
use Rattle.meaning.proofs.Shut.{IsShut, shut_kept}
use Rattle.meaning.proofs.Law.{followpos_law_lem}
use Rattle.meaning.proofs.Clashes.{one_word}
use Rattle.meaning.proofs.Nths.{nth_at, nth_each}

each_push : {A : Type 0} (P : A → Type 0) (xs : List A) (x : A) → Each P xs → P x → Each P (xs ++ x ∷ [])
each_push P [] x h k = (k, tt)
each_push P (y ∷ xs) x h k = (h.0, each_push P xs x h.1 k)

each_front : {A : Type 0} (P : A → Type 0) (xs ys : List A) → Each P (xs ++ ys) → Each P xs
each_front P [] ys h = tt
each_front P (x ∷ xs) ys h = (h.0, each_front P xs ys h.1)

-- a list is empty or has a last element
last_or_none : {A : Type 0} (xs : List A) → (xs ≡ []) ⊎ ((front : List A) × (x : A) × (xs ≡ front ++ x ∷ []))
last_or_none [] = inl refl
last_or_none (x ∷ xs) = elim (last_or_none xs) [
  | inl e ↦ inr ([], x, ap (λ ys. x ∷ ys) e)
  | inr (front, y, e) ↦ inr (x ∷ front, y, ap (λ ys. x ∷ ys) e)
]

length_cleared : (cells : List ℕ) (used : ℕ) → used ≤ length cells → length (cleared cells used) ≡ length cells
length_cleared cells used h = omega (arith, length-append (replicate used 0) (drop used cells), length-replicate {A = ℕ} used 0, length-drop used cells)

-- texts that are accepted are the texts of lines that do not clash
lines_of : (count : ℕ) (ts : List (List ℕ)) → Each (TextAccepted count) ts → (ls : List Line) × Mean ts ls × AllClear ls × (length ls ≡ length ts)
lines_of count [] h = ([], tt, tt, refl)
lines_of count (t ∷ ts) h =
    let (ls, m, c, e) = lines_of count ts h.1 in
    (h.0.line ∷ ls, (h.0.means, m), (h.0.clear, c), omega arith)

module _ {S : Type 0} (rule : Rule S) where
  -- a rule leads on from where it led
  pub leads_append : {s t u : S} {gs hs : List Given} → Leads rule s gs t → Leads rule t hs u → Leads rule s (gs ++ hs) u
  leads_append stays k = k
  leads_append (leads_on e h) k = leads_on e (leads_append h k)

  -- a play leads the doer through what it gives
  pub play_leads : {ls : List Line} {extent : List ℕ} {place : ℕ} {s t : S} {gs : List Given} {pieces stop codes why : ℕ} → Plays rule ls extent place s gs pieces stop codes why t → Leads rule s gs t
  play_leads (at_end h) = stays
  play_leads (no_piece h z) = stays
  play_leads (broken rest c g e l r) = l
  play_leads (whole c g l p) = leads_append l (play_leads p)

module _ (count : ℕ) {S : Type 0} (rule : Rule S) (first : S) where
  -- what holds of the accounts that runs reach
  pub record Sound (a : Account) : Type 0 where
    pub room : Room count a.moves a.sets
    pub few : length a.texts ≤ 8
    pub accepted : Each (TextAccepted count) a.texts
    pub state : S
    pub led : Leads rule first a.history state

  abbrev Answered : Account → Call → Type 0
  Answered a c = (r : Answer) × (b : Account) × Step count rule first a c r b × Sound b

  module _ (a : Account) (ok : Sound a) where
    take_answered : (t : List ℕ) → Answered a (take_line t)
    take_answered t = elim (cases_lt (length a.texts) 8) [
      | inl h ↦ elim (text_judged count t) [
        | inl (f, bad) ↦ (_, a, takes (turned_down h bad), ok)
        | inr good ↦ (
          _,
          _,
          takes (added h good),
          record {
            room = ok.room;
            few = omega (arith, length-append a.texts (t ∷ []));
            accepted = each_push (TextAccepted count) a.texts t ok.accepted good;
            state = ok.state;
            led = ok.led;
          },
        )
      ]
      | inr h ↦ (_, a, takes (eight (omega (arith, ok.few))), ok)
    ]

    strike_answered : Answered a strike_line
    strike_answered = elim (last_or_none a.texts) [
      | inl e ↦ (_, a, strikes (none_stands e), ok)
      | inr (ts, t, e) ↦ (
        _,
        _,
        strikes (struck ts t e),
        record {
          room = ok.room;
          few = omega (arith, ok.few, ap length e, length-append ts (t ∷ []));
          accepted = each_front (TextAccepted count) ts (t ∷ []) (subst (λ xs. Each (TextAccepted count) xs) e ok.accepted);
          state = ok.state;
          led = ok.led;
        },
      )
    ]

    build_lines : (ls : List Line) → Mean a.texts ls → 0 < length ls → Answered a build_plate
    build_lines ls m some = elim (at_most_or_more count ls) [
      | inl (all, s, h) ↦
          let mv = moves_from count ls all s h a.moves ok.room.0 in
          let st = sets_from count ls all s h a.sets ok.room.1 in (
            _,
            _,
            builds (made m some s h (tables count ls all s h a.moves a.sets mv st) mv.as_long st.as_long mv.behind st.behind),
            record {
              room = (omega (arith, ok.room.0, mv.as_long), omega (arith, ok.room.1, st.as_long));
              few = ok.few;
              accepted = ok.accepted;
              state = ok.state;
              led = ok.led;
            },
          )
      | inr more ↦ (
        _,
        _,
        builds (large m some more),
        record {
          room = (
            omega (arith, ok.room.0, length_cleared a.moves (64 * count) ok.room.0),
            omega (arith, ok.room.1, length_cleared a.sets 512 ok.room.1),
          );
          few = ok.few;
          accepted = ok.accepted;
          state = ok.state;
          led = ok.led;
        },
      )
    ]

    build_answered : Answered a build_plate
    build_answered = elim (last_or_none a.texts) [
      | inl e ↦ (_, a, builds (empty e), ok)
      | inr (ts, t, e) ↦
          let (ls, m, c, l) = lines_of count a.texts ok.accepted in
          build_lines ls m (omega (arith, ap length e, length-append ts (t ∷ [])))
    ]

    read_answered : (extent : List ℕ) (list : List Piece) → Answered a (read_extent extent list)
    read_answered extent list = elim (cases_Bool a.built) [
      | inl built ↦ elim (cases_lt longest_extent (length extent)) [
        | inl h ↦ (_, a, reads (refuses (long built h)), ok)
        | inr h ↦
            let (ls, m, c, l) = lines_of count a.texts ok.accepted in
            let (ps, place, why, r) = reading_found ls extent c (length list) in
            (_, a, reads (read_out ls built h m r), ok)
      ]
      | inr idle ↦ (_, a, reads (refuses (unbuilt idle)), ok)
    ]

    play_answered : (extent : List ℕ) → Answered a (play_extent extent)
    play_answered extent = elim (cases_Bool a.built) [
      | inl built ↦ elim (cases_lt longest_extent (length extent)) [
        | inl h ↦ (_, a, refuses_play (long built h), ok)
        | inr h ↦
            let (ls, m, c, l) = lines_of count a.texts ok.accepted in
            let (gs, pieces, stop, codes, why, t, p) = play_found ls extent rule c ok.state in (
              _,
              _,
              plays ls built h m ok.led p,
              record { room = ok.room; few = ok.few; accepted = ok.accepted; state = t; led = leads_append rule ok.led (play_leads rule p) },
            )
      ]
      | inr idle ↦ (_, a, refuses_play (unbuilt idle), ok)
    ]

    answered : (c : Call) → Answered a c
    answered (take_line t) = take_answered t
    answered strike_line = strike_answered
    answered build_plate = build_answered
    answered (read_extent extent list) = read_answered extent list
    answered (play_extent extent) = play_answered extent

  module _ (start : Account) where
    abbrev Outcome : List Call → Type 0
    Outcome cs = (rs : List Answer) × (z : Account) × Run count rule first (open_for count) start cs rs z × Sound z

    run_on : (ds cs : List Call) → Outcome cs → Outcome (cs ++ ds)
    run_on [] cs h = subst Outcome (sym (append-nil cs)) h
    run_on (d ∷ ds) cs (rs, z, run, ok) =
        let (r, b, s, ok') = answered z ok d in
        subst Outcome (append_assoc cs (d ∷ []) ds) (run_on ds (cs ++ d ∷ []) (rs ++ r ∷ [], b, then d r run (heard refl s) refl refl, ok'))

  module _ (moves sets : List ℕ) (cs : List Call) where
    abbrev KeptSo : Type 0
    KeptSo = (rs : List Answer) × (moves' : List ℕ) × (sets' : List ℕ) × (s : S) × Kept count rule first moves sets cs rs moves' sets' s

    open_outcome : Room count moves sets → KeptSo
    open_outcome h =
        let zero_moves : List ℕ = cleared moves (64 * count) in
        let zero_sets : List ℕ = cleared sets 512 in
        let ok : Sound (fresh zero_moves zero_sets) = record {
          room = (omega (arith, h.0, length_cleared moves (64 * count) h.0), omega (arith, h.1, length_cleared sets 512 h.1));
          few = omega arith;
          accepted = tt;
          state = first;
          led = stays;
        } in
        let (rs, z, run, end) = run_on (fresh zero_moves zero_sets) cs [] ([], fresh zero_moves zero_sets, opened, ok) in (
          rs,
          z.moves,
          z.sets,
          end.state,
          record {
            plate = open_for count;
            zero_moves = zero_moves;
            zero_sets = zero_sets;
            opening = opens h;
            account = z;
            run = run;
            same_moves = refl;
            same_sets = refl;
            leads = end.led;
          },
        )

    pub outcome : KeptSo
    outcome = elim (Dec.and (dec_le (64 * count) (length moves)) (dec_le 512 (length sets))) [
      | yes h ↦ open_outcome h
      | no h ↦ (_, moves, sets, first, shut_kept count rule first moves sets cs h)
    ]

-- ---- test
module _ (count : ℕ) (a : Account) (k : ℕ) (extent cells : List ℕ) (ok : Each (TextAccepted count) a.texts) where
  abbrev Told : Type 0
  Told = (v : Verdict) × (after : List ℕ) × Tested a k extent cells v after

  test_line : (ls : List Line) (l : Line) → a.built ≡ true → length extent ≤ longest_extent → length extent + 2 ≤ length cells → Mean a.texts ls → Nth ls k l → (Clash l.expr → ⊥) → Told
  test_line ls l built h room m n clear = elim (cases_Bool (has (move_all l (first_set l) extent) (end_mark l))) [
    | inl e ↦
        let (w, o, d) = (followpos_law_lem l extent).1 e in
        (_, _, a_word built h room m n (w, o, d, refl) (λ γ (v, p, f, g). sym g ∙ ap (line_codes l) (one_word l clear v w p o (f ∙ sym d))))
    | inr e ↦ (_, _, no_word built h room m n (λ β (w, o, d, f). both_ways _ e ((followpos_law_lem l extent).0 (w, o, d))))
  ]

  test_told : Told
  test_told = elim (cases_Bool a.built) [
    | inl built ↦ elim (cases_lt longest_extent (length extent)) [
      | inl h ↦ (_, _, too_long built h)
      | inr h ↦ elim (cases_lt k (length a.texts)) [
        | inl stands ↦ elim (cases_lt (length cells) (length extent + 2)) [
          | inl few ↦ (_, _, few_cells built h stands few)
          | inr room ↦
              let (ls, m, c, e) = lines_of count a.texts ok in
              let (l, n) = nth_at ls k (omega arith) in
              test_line ls l built h room m n (nth_each (λ x. Clash x.expr → ⊥) ls k l n c)
        ]
        | inr none ↦ (_, _, no_line built h none)
      ]
    ]
    | inr idle ↦ (_, _, not_built idle)
  ]

pub test_answered : (p : Plate) (count : ℕ) (a : Account) (k : ℕ) (extent cells : List ℕ) → Each (TextAccepted count) a.texts
    → (v : Verdict) × (after : List ℕ) × Tests p count a k extent cells v after
test_answered shut count a k extent cells ok = (_, _, away (λ e. subst IsShut e tt))
test_answered (open_for n) count a k extent cells ok = elim (ℕ_discrete n count) [
  | yes e ↦ let (v, after, t) = test_told count a k extent cells ok in (v, after, tested (ap open_for e) t)
  | no e ↦ (_, _, away (λ h. e (cc)))
]
