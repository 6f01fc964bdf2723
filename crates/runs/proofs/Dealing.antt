-- The calls of a run and their lists, as one more call is made.
use Rattle.std.proofs.Common.{◌≡◌, ℕ, ◌≤◌, min, List, [], ◌∷◌, ◌++◌, map, length, take, drop, sym, refl, ap, ◌∙◌, append_assoc, append-nil, arith, take-append-drop}
use lib.ListN.{length-map}
use Rattle.std.proofs.lemmas.List.{take-map, drop-map, map-append, length-take-le, take_min}
use Rattle.meaning.specs.declared.Piece.{Piece}
use Rattle.meaning.specs.Runs.{Answer, refused, numbered, listed, unread, played}
use Rattle.meaning.specs.Asked.{Asked, ask_take, ask_strike, ask_build, ask_read, ask_play, dealt, gathered}
use Rattle.runs.specs.declared.calling.Call.{Call}
use Rattle.runs.specs.declared.calling.Call.TheVariants.{Take, Strike, Build, Read, Play}
use Rattle.runs.specs.Asking.{cells_of, asked_of, lent}

-- how many cells a call asks for
abbrev pub room_of : Asked → ℕ
room_of (ask_take t) = 0
room_of ask_strike = 0
room_of ask_build = 0
room_of (ask_read extent room) = room
room_of (ask_play extent) = 0

-- the cells that calls leave to the next
abbrev pub left_of : List Asked → List Piece → List Piece
left_of [] cells = cells
left_of (q ∷ qs) cells = left_of qs (drop (room_of q) cells)

-- the first call, and those behind it
dealt_cons : (q : Asked) (qs : List Asked) (cells : List Piece) → dealt (q ∷ qs) cells ≡ lent q (take (room_of q) cells) ∷ dealt qs (drop (room_of q) cells)
dealt_cons (ask_take t) qs cells = refl
dealt_cons ask_strike qs cells = refl
dealt_cons ask_build qs cells = refl
dealt_cons (ask_read extent room) qs cells = refl
dealt_cons (ask_play extent) qs cells = refl

-- one call more has the next cells
pub dealt_more : (qs : List Asked) (q : Asked) (cells : List Piece) → dealt (qs ++ q ∷ []) cells ≡ dealt qs cells ++ lent q (take (room_of q) (left_of qs cells)) ∷ []
dealt_more [] q cells = dealt_cons q [] cells
dealt_more (p ∷ qs) q cells =
    let behind : List Piece = drop (room_of p) cells in
    dealt_cons p (qs ++ q ∷ []) cells ∙ ap (λ r. lent p (take (room_of p) cells) ∷ r) (dealt_more qs q behind)
    ∙ ap (λ r. r ++ lent q (take (room_of q) (left_of qs behind)) ∷ []) (sym (dealt_cons p qs cells))

pub left_more : (qs : List Asked) (q : Asked) (cells : List Piece) → left_of (qs ++ q ∷ []) cells ≡ drop (room_of q) (left_of qs cells)
left_more [] q cells = refl
left_more (p ∷ qs) q cells = left_more qs q (drop (room_of p) cells)

-- the list of the first answer, and those behind it
gathered_cons : (r : Answer) (rs : List Answer) → gathered (r ∷ rs) ≡ gathered (r ∷ []) ++ gathered rs
gathered_cons (refused f) rs = refl
gathered_cons (numbered n) rs = refl
gathered_cons (listed list pieces place why) rs = ap (λ l. l ++ gathered rs) (sym (append-nil list))
gathered_cons (unread list f) rs = ap (λ l. l ++ gathered rs) (sym (append-nil list))
gathered_cons (played pieces place codes why) rs = refl

pub gathered_more : (rs : List Answer) (r : Answer) → gathered (rs ++ r ∷ []) ≡ gathered rs ++ gathered (r ∷ [])
gathered_more [] r = refl
gathered_more (p ∷ rs) r =
    gathered_cons p (rs ++ r ∷ []) ∙ ap (λ l. gathered (p ∷ []) ++ l) (gathered_more rs r)
    ∙ sym (append_assoc (gathered (p ∷ [])) (gathered rs) (gathered (r ∷ []))) ∙ ap (λ l. l ++ gathered (r ∷ [])) (sym (gathered_cons p rs))

-- a call has as many cells as it asks for, or all that are left
pub cells_asked : {A : Type 0} (classed : A → ℕ) (call : Call A) (left : ℕ) → cells_of call left ≡ min (room_of (asked_of classed call)) left
cells_asked classed (Take line) left = omega arith
cells_asked classed Strike left = omega arith
cells_asked classed Build left = omega arith
cells_asked classed (Read extent room) left = refl
cells_asked classed (Play extent) left = omega arith

-- the calls that are made, of all
pub asked_all : {X Y Z W : Type 0} (f : X → Y) (g : Z → W) (calls : List X) (answers : List Z) (n : ℕ) → n ≡ min (length calls) (length answers)
    → map f (take n calls) ≡ take (length (map g answers)) (map f calls)
asked_all f g calls answers n e =
    let same : n ≡ min (length answers) (length calls) = omega arith in
    ap (λ k. map f (take k calls)) same ∙ ap (map f) (take_min (length answers) calls) ∙ sym (take-map f (length answers) calls)
    ∙ ap (λ k. take k (map f calls)) (sym (length-map answers g))

-- the answers that are written, with the others behind them
pub answered_all : {X Y : Type 0} (f : X → Y) (answers answers' : List X) (n : ℕ) → n ≤ length answers' → drop n answers' ≡ drop n answers
    → map f answers' ≡ map f (take n answers') ++ drop (length (map f (take n answers'))) (map f answers)
answered_all f answers answers' n fits same =
    let many : length (map f (take n answers')) ≡ n = length-map (take n answers') f ∙ length-take-le n answers' fits in
    ap (map f) (sym (take-append-drop n answers')) ∙ map-append f (take n answers') (drop n answers')
    ∙ ap (λ l. map f (take n answers') ++ l) (ap (map f) same ∙ sym (drop-map f n answers) ∙ ap (λ k. drop k (map f answers)) (sym many))
