-- A text that was read to its end is a line with nothing wrong. Assumes nothing.
use Rattle.std.proofs.Common.{◌≡◌, ℕ, ◌-◌, ◌≤◌, List, [], ◌∷◌, ◌++◌, length, take, replicate, sym, refl, ap, ◌∙◌, subst, arith}
use lib.Bits.{bit_or}
use Rattle.std.proofs.lemmas.List.{take_all}
use Rattle.std.proofs.lemmas.Simd.{get_or-replicate}
use Rattle.meaning.specs.Words.{Expr, Line, Each}
use Rattle.meaning.specs.Text.{tokens, line_tokens, spell_all, Short, Wrong}
use Rattle.meaning.specs.Positions.{symbols, followpos}
use Rattle.meaning.specs.Runs.{Means}
use Rattle.meaning.proofs.Scan.{closing, Item, moved, scan, start, onto}
use Rattle.meaning.proofs.Viable.{scanned}
use Rattle.meaning.proofs.Open.{rule_tokens}
use Rattle.meaning.proofs.Judge.{Fine, fine_start, all_fine}
use Rattle.meaning.proofs.Limits.{onto_onto, limits}
use Rattle.positions.specs.declared.draft.Draft.{Draft}
use Rattle.positions.specs.Masks.{at}
use Rattle.positions.specs.Of.{Drafted}
use Rattle.positions.specs.declared.part.Part.{Part}
use Rattle.sheet.specs.declared.reader.Reader.{Reader}
use Rattle.sheet.specs.Adding.{Added}
use Rattle.sheet.specs.Reading.{Stands, ExprRead}
use Rattle.sheet.specs.Parsing.{LineRead}

-- a whole expression, behind an empty draft
pub drafted : {e : Expr} {d after : Draft} {part : Part} (m n : ℕ) → Added e d after part → d.symbols.len ≡ 0 → d.follow ≡ replicate 64 0 → Drafted (record { open_code = m; close_code = n; expr = e }) after part
drafted {e} {d} {after} {part} m n a c f = record {
  symbols_are = a.symbols_are ∙ ap (λ k. take k d.symbols.array ++ symbols e) c;
  follow_is = λ p h.
      let none : at d.follow p ≡ 0 = ap (λ x. at x p) f ∙ get_or-replicate 64 (p - 1) 0 0 (omega arith) in
      a.follow_is p h ∙ (ap (λ x. bit_or x (followpos e d.symbols.len p)) none ∙ ap (λ k. followpos e k p) c);
  empty_is = a.nullable_is;
  first_is = rw c at a.first_is;
  last_is = rw c at a.last_is;
}

-- the text of such a line
module _ (count : ℕ) (t : List ℕ) (m n : ℕ) (e : Expr) (fine : Fine count t (length t)) (scans : scan t ≡ moved [] (closing ∷ onto (tokens e) (rule_tokens m n))) where
  abbrev the_line : Line
  the_line = record { open_code = m; close_code = n; expr = e }

  pub no_wrong : (k j : ℕ) → Wrong count t k j → ⊥
  no_wrong = all_fine count t _ fine scans

  pub means_it : Means t (record { open_code = m; close_code = n; expr = e })
  means_it =
      let s = scanned t _ scans in
      let same : line_tokens s.line ≡ line_tokens the_line = s.toks ∙ onto_onto (tokens e) (rule_tokens m n) (closing ∷ []) in
      (subst (Each Short) same s.formed, s.text ∙ ap spell_all same)

pub line_read : {count left left' : ℕ} {t : List ℕ} {d : Draft} {a b : Reader} {is : List Item} {part : Part} (m n : ℕ) (r : ExprRead count t d a is (rule_tokens m n) left part) → Stands count t r.after b [] (closing ∷ onto (tokens r.expr) (rule_tokens m n)) left' → length b.text.now ≤ b.at → d.symbols.len ≡ 0 → d.follow ≡ replicate 64 0 → LineRead count t m n b.draft part
line_read {count} {left} {left'} {t} {d} {a} {b} {is} {part} m n r h over c f =
    let whole : length t ≤ b.at = rw h.text_is at over in
    let inside : b.at ≤ length t = rw h.text_is at b.within in
    let end : b.at ≡ length t = omega arith in
    let scans : scan t ≡ moved [] (closing ∷ onto (tokens r.expr) (rule_tokens m n)) = rw (take_all b.at t whole) at h.scans in
    let fine : Fine count t (length t) = rw end at h.fine in
    let l : Line = record { open_code = m; close_code = n; expr = r.expr } in
    let means = means_it count t m n r.expr fine scans in
    record {
      line = l;
      means = means;
      faultless = λ k j x. no_wrong count t m n r.expr fine scans k j x.wrong;
      in_limits = (limits count l means.0).0 (λ k j x. no_wrong count t m n r.expr fine scans k j (subst (λ w. Wrong count w k j) (sym means.1) x));
      opens = refl;
      closes = refl;
      drafted = subst (λ x. Drafted l x part) (sym h.draft_is) (drafted m n r.added c f);
    }

-- a reader at the start of its text
pub starts : (a : Reader) → a.at ≡ 0 → Stands a.classes a.text.now a.draft a start [] 16
starts a e = record { text_is = refl; counts = refl; draft_is = refl; scans = rw e; fine = rw e (fine_start a.classes a.text.now); levels = rw e }
