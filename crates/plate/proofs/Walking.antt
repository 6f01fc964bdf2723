-- Strings of classes through the table of a built plate: where the cells lead, and the line that is taken there. Assumes nothing.
use Rattle.std.proofs.Common.{◌≡◌, ℕ, ◌+◌, ◌*◌, ◌<◌, true, false, List, [], ◌∷◌, ◌++◌, map, length, get_or, take, Some, None, Option, sym, refl, ap, ◌∙◌, subst, inl, inr, arith}
use mathlib.Core.Logic.{∥∥₁_elim}
use denote.Struct.Props.{props}
use Rattle.meaning.specs.Words.{Line}
use Rattle.meaning.specs.Positions.{has, end_mark, first_set, move_all}
use Rattle.meaning.specs.States.{State, nowhere, start, step, steps, LeadsTo}
use Rattle.meaning.specs.Pieces.{Nth}
use Rattle.meaning.specs.Runs.{Mean}
use Rattle.meaning.specs.ReadLaws.{AllClear}
use Rattle.meaning.proofs.Determined.{one_mean}
use Rattle.meaning.proofs.Nths.{one_nth, nth_below}
use Rattle.meaning.proofs.Masks.{has_zero}
use Rattle.meaning.proofs.Reach.{line_set, empty_step, steps_append}
use Rattle.sheet.specs.declared.entry.Entry.{Entry}
use Rattle.sheet.specs.Entries.{text_of}
use Rattle.sheet.proofs.Entries.{record_clear as clear}
use Rattle.plate.specs.declared.desk.Desk.{Desk}
use Rattle.plate.specs.Desks.{texts_of}
use Rattle.plate.specs.Tables.{BuiltTable, Earliest}
use Rattle.plate.proofs.Meant.{nowhere_at}

-- the line l has a word of the classes α
abbrev pub Marked : Line → List ℕ → Type 0
Marked l α = has (move_all l (first_set l) α) (end_mark l) ≡ true

abbrev pub Unmarked : Line → List ℕ → Type 0
Unmarked l α = has (move_all l (first_set l) α) (end_mark l) ≡ false

-- nowhere leads nowhere
nowhere_steps : (ls : List Line) (β : List ℕ) → steps ls β nowhere ≡ nowhere
nowhere_steps ls [] = refl
nowhere_steps ls (c ∷ β) = ap (steps ls β) (empty_step ls c 8) ∙ nowhere_steps ls β

-- a set in a state is what the moves of its line give
set_of : (ls : List Line) (k : ℕ) (l : Line) → Nth ls k l → (s : State) (α : List ℕ) → s ≡ steps ls α (start ls) → get_or s k 0 ≡ move_all l (first_set l) α
set_of ls k l n s α e = ap (λ t. get_or t k 0) e ∙ line_set ls k l n α

-- no line has a word that goes on from nowhere
lost : (ls : List Line) (k : ℕ) (l : Line) → Nth ls k l → (α β : List ℕ) → steps ls α (start ls) ≡ nowhere → Unmarked l (α ++ β)
lost ls k l n α β e =
    ap (λ m. has m (end_mark l))
    (sym (set_of ls k l n nowhere (α ++ β) (sym (steps_append ls α β (start ls) ∙ ap (steps ls β) e ∙ nowhere_steps ls β))) ∙ nowhere_at k)
    ∙ has_zero (end_mark l)

-- what is known of the line k that is taken after the classes α: it has a word there, and no earlier line does
abbrev pub TakenAfter : List Line → List ℕ → ℕ → Type 0
TakenAfter ls α k = (k < length ls) × ((l : Line) → Nth ls k l → Marked l α) × ((j : ℕ) (l : Line) → j < k → Nth ls j l → Unmarked l α)

-- no line is taken
abbrev pub NoneAfter : List Line → List ℕ → Type 0
NoneAfter ls α = (j : ℕ) (l : Line) → Nth ls j l → Unmarked l α

entries_clear : (es : List Entry) (ls : List Line) → Mean (map text_of es) ls → AllClear ls
entries_clear [] [] m = tt
entries_clear [] (l ∷ ls) m = absurd m
entries_clear (e ∷ es) [] m = absurd m
entries_clear (e ∷ es) (l ∷ ls) m = (clear e l m.0, entries_clear es ls m.1)

-- no line that stands clashes
pub lines_clear : (d : Desk) (ls : List Line) → Mean (texts_of d) ls → AllClear ls
lines_clear d ls m = entries_clear (take d.standing d.entries) ls m

module _ (count : ℕ) (texts : List (List ℕ)) (moves sets : List ℕ) (accepts : List (Option ℕ)) (ls : List Line) where
  -- state s of the table is where the classes α lead from the start
  abbrev pub At : ℕ → List ℕ → Type 0
  At s α = (b : BuiltTable count texts moves sets accepts) → (s < length b.all) × (get_or b.all s nowhere ≡ steps ls α (start ls))

  module _ (m : Mean texts ls) where
    same_lines : (b : BuiltTable count texts moves sets accepts) → b.lines ≡ ls
    same_lines b = one_mean texts b.lines ls b.mean m

    pub start_at : At 0 []
    start_at b = (b.states.numbers.starts.0, b.states.numbers.starts.1 ∙ ap start (same_lines b))

    leads_at : (b : BuiltTable count texts moves sets accepts) (s c : ℕ) → s < length b.all → c < count → LeadsTo ls b.all s c (get_or moves (s * count + c) 0)
    leads_at b s c h k = subst (λ xs. LeadsTo xs b.all s c (get_or moves (s * count + c) 0)) (same_lines b) (b.tables.move_cells s c h k)

    one_step : (b : BuiltTable count texts moves sets accepts) (s c : ℕ) (α : List ℕ) → At s α → step ls c (get_or b.all s nowhere) ≡ steps ls (α ++ c ∷ []) (start ls)
    one_step b s c α a = ap (step ls c) (a b).1 ∙ sym (steps_append ls α (c ∷ []) (start ls))

    -- the state that a cell names
    pub step_at : (s c t : ℕ) (α : List ℕ) → At s α → c < count → get_or moves (s * count + c) 0 ≡ t + 1 → At t (α ++ c ∷ [])
    step_at s c t α a h e b = elim (leads_at b s c (a b).0 h) [
      | inl (z, n) ↦ absurd (omega arith)
      | inr (u, z, k, n) ↦
          let same : u ≡ t = omega arith in
          subst (λ v. (v < length b.all) × (get_or b.all v nowhere ≡ steps ls (α ++ c ∷ []) (start ls))) same (k, sym n ∙ one_step b s c α a)
    ]

    module _ (built : ∥ BuiltTable count texts moves sets accepts ∥₁) where
      -- a state has a number that a plate has
      pub below_at : (s : ℕ) (α : List ℕ) → At s α → s < 64
      below_at s α a = ∥∥₁_elim built (hlevel props) (λ b. let h = (a b).0 in let k = b.few in omega arith)

      -- behind a cell that is 0 no line has a word
      pub lost_at : (s c : ℕ) (α β : List ℕ) → At s α → c < count → get_or moves (s * count + c) 0 ≡ 0 → (k : ℕ) (l : Line) → Nth ls k l → Unmarked l ((α ++ c ∷ []) ++ β)
      lost_at s c α β a h e k l n =
          ∥∥₁_elim built (hlevel props)
          (λ b. elim (leads_at b s c (a b).0 h) [
            | inl (z, o) ↦ lost ls k l n (α ++ c ∷ []) β (sym (one_step b s c α a) ∙ o)
            | inr (u, z, o, p) ↦ absurd (omega arith)
          ])

      earliest_at : (b : BuiltTable count texts moves sets accepts) (s : ℕ) → s < length b.all → Earliest ls (get_or b.all s nowhere) (get_or accepts s None)
      earliest_at b s h = subst (λ xs. Earliest xs (get_or b.all s nowhere) (get_or accepts s None)) (same_lines b) (b.earliest s h)

      pub none_at : (s : ℕ) (α : List ℕ) → At s α → get_or accepts s None ≡ None → NoneAfter ls α
      none_at s α a e j l n =
          ∥∥₁_elim built (hlevel props)
          (λ b.
          let f : Earliest ls (get_or b.all s nowhere) None = subst (Earliest ls (get_or b.all s nowhere)) e (earliest_at b s (a b).0) in
          ap (λ m. has m (end_mark l)) (sym (set_of ls j l n (get_or b.all s nowhere) α (a b).1)) ∙ f j l (nth_below ls j l n) n)

      pub taken_at : (s k : ℕ) (α : List ℕ) → At s α → get_or accepts s None ≡ Some k → TakenAfter ls α k
      taken_at s k α a e =
          let at : (b : BuiltTable count texts moves sets accepts) → Earliest ls (get_or b.all s nowhere) (Some k) = λ b. subst (Earliest ls (get_or b.all s nowhere)) e (earliest_at b s (a b).0) in (
            ∥∥₁_elim built (hlevel props) (λ b. let (l, n, h) = (at b).0 in nth_below ls k l n),
            (λ l n. ∥∥₁_elim built (hlevel props) (λ b.
                let (x, o, h) = (at b).0 in
                ap (λ m. has m (end_mark l)) (sym (set_of ls k l n (get_or b.all s nowhere) α (a b).1))
                ∙ ap (λ y. has (get_or (get_or b.all s nowhere) k 0) (end_mark y)) (one_nth ls k l x n o) ∙ h)),
            λ j l h n. ∥∥₁_elim built (hlevel props) (λ b.
                ap (λ m. has m (end_mark l)) (sym (set_of ls j l n (get_or b.all s nowhere) α (a b).1)) ∙ (at b).1 j l h n),
          )
