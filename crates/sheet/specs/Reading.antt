-- Where a reader stands in a text, and what its steps make of it. Assumes nothing.
use Rattle.std.specs.Prelude.{◌≡◌, ℕ, ◌+◌, ◌<◌, ◌≤◌, ◌⊎◌, List, [], ◌∷◌, ◌++◌, length, take, codes as ascii, Option, Some, Result, slice_get}
use Rattle.std.specs.Option as options
use Rattle.std.specs.Result as results
use Rattle.positions.specs.declared.draft.Draft.{Draft}
use Rattle.meaning.specs.Bounds.{most_levels}
use Rattle.meaning.specs.declared.Symbol.{Symbol}
use Rattle.meaning.specs.Words.{Expr, Forms}
use Rattle.meaning.specs.Text.{Field, action, low, high, Token, fixed, sym_head, number, tokens, list_tokens, occurs, heads, Outside, Fault}
use Rattle.meaning.specs.TextLaws.{Digit}
use Rattle.meaning.proofs.Scan.{closing, Stop, blank, stop_byte, stop_token, Item, rest, numeral, digits, form, letter, second, listing, moved, behind, scan, onto}
use Rattle.meaning.proofs.Judge.{Fine}
use Rattle.sheet.specs.declared.reader.Join.{Join}
use Rattle.positions.specs.declared.part.Part.{Part}
use Rattle.sheet.specs.declared.reader.Reader.{Reader}
use Rattle.sheet.specs.declared.refusal.Refusal.{Refusal}
use Rattle.sheet.specs.Adding.{Added, joins}
use Rattle.sheet.specs.Refusals.{reported}

-- the byte that comes next, if one is left
abbrev pub upcoming : Reader → Option ℕ
upcoming a = slice_get a.text.now a.at

-- a byte is left
abbrev pub Left : Reader → Type 0
Left a = a.at < length a.text.now

-- b reads the same text as a, and does not stand before it
pub record Onward (a b : Reader) : Type 0 where
  pub text_is : b.text.now ≡ a.text.now
  pub on : a.at ≤ b.at

-- b has read one byte more than a, and is as a otherwise
pub record Passed (a b : Reader) : Type 0 where
  pub text_is : b.text.now ≡ a.text.now
  pub counts : b.classes ≡ a.classes
  pub place : b.at ≡ a.at + 1
  pub draft_is : b.draft ≡ a.draft

-- the reader has read t up to its place, with the draft d: `is` is to come, `ts` was read, the last token first; nothing is wrong so far, and `left` brackets may open
pub record Stands (count : ℕ) (t : List ℕ) (d : Draft) (a : Reader) (is : List Item) (ts : List Token) (left : ℕ) : Type 0 where
  pub text_is : a.text.now ≡ t
  pub counts : a.classes ≡ count
  pub draft_is : a.draft ≡ d
  pub scans : scan (take a.at t) ≡ moved is ts
  pub fine : Fine count t a.at
  pub levels : occurs 40 (take a.at t) + left ≡ occurs 41 (take a.at t) + most_levels

-- the refusal tells the first fault of the text
abbrev pub Tells : ℕ → List ℕ → Refusal → Type 0
Tells count t f = (n : ℕ) × (k : ℕ) × Fault count t n k × (reported f ≡ record { number = n; layer = 1; one = k; two = 0 })

-- the byte c leaves `left'` of `left` brackets to open
abbrev pub Leaves : ℕ → ℕ → ℕ → Type 0
Leaves c left left' = left + occurs 41 (c ∷ []) ≡ left' + occurs 40 (c ∷ [])

-- as `Stands`, where the bytes `left_of` of the fixed bytes `word` are to come before `is`
abbrev pub Awaits : ℕ → List ℕ → Draft → Reader → (left_of word : List ℕ) → List Item → List Token → ℕ → Type 0
Awaits count t d a [] word is ts left = Stands count t d a is (fixed word ∷ ts) left
Awaits count t d a (c ∷ bs) word is ts left = Stands count t d a (rest c bs (fixed word) ∷ is) ts left

-- the bytes bs leave left' of `left` brackets to open: `room` besides those in bs
abbrev pub LeavesAll : List ℕ → (room left left' : ℕ) → Type 0
LeavesAll bs room left left' = (left ≡ occurs 40 bs + room) × (left' ≡ occurs 41 bs + room)

-- the bytes bs that end a word are read, or the fault is told
abbrev pub ReadsWord : {A : Type 0} → Reader → Reader → List ℕ → Result A Refusal → Type 0
ReadsWord a b bs r =
    (count : ℕ) (t : List ℕ) (d : Draft) (word : List ℕ) (is : List Item) (ts : List Token) (room left left' : ℕ)
    → Awaits count t d a bs word is ts left → LeavesAll bs room left left'
    → results.MatchResult r (λ _. Stands count t d b is (fixed word ∷ ts) left') (Tells count t)

-- the byte c comes next, and is a digit
abbrev pub NextDigit : Reader → ℕ → Type 0
NextDigit a c = (upcoming a ≡ Some c) × Digit c

-- a digit is read, or none comes next
abbrev pub DigitsOne : Reader → Reader → Option ℕ → Type 0
DigitsOne a b r = options.MatchOption r (((c : ℕ) → NextDigit a c → ⊥) × (b ≡ a)) (λ d. NextDigit a (d + 48) × Passed a b)

-- the digits of a number are read, as many as it may have
pub record DigitsRead (count : ℕ) (t : List ℕ) (d : Draft) (b : Reader) (f : Field) (s : Stop) (is : List Item) (ts : List Token) (left value : ℕ) : Type 0 where
  pub room : ℕ
  pub stands : Stands count t d b (digits f s room value ∷ is) ts left
  pub ends : 0 < room → (c : ℕ) → NextDigit b c → ⊥

-- the digits of a number are read, or the fault is told
abbrev pub ReadsDigits : Reader → Reader → Result ℕ Refusal → Type 0
ReadsDigits a b r =
    (count : ℕ) (t : List ℕ) (d : Draft) (f : Field) (s : Stop) (is : List Item) (ts : List Token) (left : ℕ)
    → Stands count t d a (numeral f s ∷ is) ts left
    → results.MatchResult r (λ v. DigitsRead count t d b f s is ts left v) (Tells count t)

-- the field takes the numbers from `least` to below `end`, and no others
pub record Takes (count : ℕ) (f : Field) (least end : ℕ) : Type 0 where
  pub inside : (v : ℕ) → least ≤ v → v < end → Outside count f v → ⊥
  pub outside : (v : ℕ) → (v < least) ⊎ (end ≤ v) → Outside count f v

-- a number and the byte behind it are read, or the fault is told
abbrev pub ReadsNumber : Reader → Reader → (stop least end : ℕ) → Result ℕ Refusal → Type 0
ReadsNumber a b stop least end r =
    (count : ℕ) (t : List ℕ) (d : Draft) (f : Field) (s : Stop) (is : List Item) (ts : List Token) (left left' : ℕ)
    → Stands count t d a (numeral f s ∷ is) ts left → stop ≡ stop_byte s → Takes count f least end → Leaves stop left left'
    → results.MatchResult r (λ v. Stands count t d b (behind f v is) (stop_token s ∷ number f v ∷ ts) left') (Tells count t)

-- b stands where a does
pub record SamePlace (a b : Reader) : Type 0 where
  pub text_is : b.text.now ≡ a.text.now
  pub counts : b.classes ≡ a.classes
  pub place : b.at ≡ a.at

-- the numbers of a symbol and the bracket behind them, the last token first
abbrev pub numbers_onto : Symbol → List Token → List Token
numbers_onto s ts = closing ∷ number action s.code ∷ fixed (ascii " ") ∷ number (high s.low) s.high ∷ fixed (ascii " ") ∷ number low s.low ∷ ts

-- the numbers of a symbol are read, or the fault is told
abbrev pub ReadsRange : Reader → Reader → Result Symbol Refusal → Type 0
ReadsRange a b r =
    (count : ℕ) (t : List ℕ) (d : Draft) (is : List Item) (ts : List Token) (left : ℕ)
    → Stands count t d a (numeral low blank ∷ is) ts left
    → results.MatchResult r (λ s. Stands count t d b is (numbers_onto s ts) (left + 1)) (Tells count t)

-- an expression was read behind the tokens ts and the draft d
pub record ExprRead (count : ℕ) (t : List ℕ) (d : Draft) (b : Reader) (is : List Item) (ts : List Token) (left : ℕ) (part : Part) : Type 0 where
  pub expr : Expr
  pub after : Draft
  pub stands : Stands count t after b is (onto (tokens expr) ts) left
  pub heads_are : heads (onto (tokens expr) ts) ≡ after.symbols.len
  pub added : Added expr d after part

-- the rest `front` of an expression is read, or the fault is told
abbrev pub ReadsExpr : List Item → Reader → Reader → (left left' : ℕ) → Result Part Refusal → Type 0
ReadsExpr front a b left left' r =
    (count : ℕ) (t : List ℕ) (d : Draft) (is : List Item) (ts : List Token)
    → Stands count t d a (front ++ is) ts left → heads ts ≡ d.symbols.len
    → results.MatchResult r (λ part. ExprRead count t d b is ts left' part) (Tells count t)

-- a form is read
abbrev pub ReadsForm : Reader → Reader → ℕ → Result Part Refusal → Type 0
ReadsForm a b left r = ReadsExpr (form ∷ []) a b left left r

-- a form is read from behind its bracket on
abbrev pub ReadsHead : Reader → Reader → ℕ → Result Part Refusal → Type 0
ReadsHead a b left r = ReadsExpr (letter ∷ []) a b left (left + 1) r

-- a form is read from behind `(s` on
abbrev pub ReadsSecond : Reader → Reader → ℕ → Result Part Refusal → Type 0
ReadsSecond a b left r = ReadsExpr (second ∷ []) a b left (left + 1) r

-- a form is read from behind `(st` on
abbrev pub ReadsStar : Reader → Reader → ℕ → Result Part Refusal → Type 0
ReadsStar a b left r = ReadsExpr (rest 97 (ascii "r ") (fixed (ascii "(star ")) ∷ form ∷ rest 41 [] closing ∷ []) a b left (left + 1) r

-- a form is read from behind `(n` on
abbrev pub ReadsNone : Reader → Reader → Result Part Refusal → Type 0
ReadsNone a b r = (left : ℕ) → ReadsExpr (rest 111 (ascii "ne)") (fixed (ascii "(none)")) ∷ []) a b left (left + 1) r

-- a form is read from behind `(sy` on
abbrev pub ReadsSymbol : Reader → Reader → Result Part Refusal → Type 0
ReadsSymbol a b r = (left : ℕ) → ReadsExpr (rest 109 [] sym_head ∷ rest 32 [] (fixed (ascii " ")) ∷ numeral low blank ∷ []) a b left (left + 1) r

-- the forms of a list were read, with the bracket that closes it
pub record ListRead (join : Join) (count : ℕ) (t : List ℕ) (d : Draft) (b : Reader) (is : List Item) (ts : List Token) (left : ℕ) (part : Part) : Type 0 where
  pub list : Forms
  pub after : Draft
  pub stands : Stands count t after b is (closing ∷ onto (list_tokens list) ts) left
  pub heads_are : heads (onto (list_tokens list) ts) ≡ after.symbols.len
  pub added : Added (joins join list) d after part

-- the forms of a list are read, or the fault is told
abbrev pub ReadsList : Join → Reader → Reader → ℕ → Result Part Refusal → Type 0
ReadsList join a b left r =
    (count : ℕ) (t : List ℕ) (d : Draft) (is : List Item) (ts : List Token)
    → Stands count t d a (form ∷ listing ∷ is) ts left → heads ts ≡ d.symbols.len
    → results.MatchResult r (λ part. ListRead join count t d b is ts (left + 1) part) (Tells count t)
