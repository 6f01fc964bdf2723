-- A table of sets that is linked place by place. Assumes nothing.
use Rattle.std.proofs.Common.{◌≡◌, ℕ, ◌+◌, ◌<◌, ◌≤◌, ◌≢◌, List, length, get_or, set, ap, ◌∙◌, arith, length-set, get_or-set_other}
use lib.Bits.{bit_or}
use Rattle.std.proofs.lemmas.List.Edits.{fill_by_more}
use Rattle.meaning.specs.Positions.{has, given}

module _ (before : List ℕ) (last next : ℕ) where
  -- what the place k has when it is linked
  abbrev linked_at : ℕ → ℕ
  linked_at k = bit_or (get_or before k 0) (given (has last (k + 1)) next)

  -- the places below i are linked, and those from i on are as they were
  pub record LinkedBelow (after : List ℕ) (i : ℕ) : Type 0 where
    pub long : length after ≡ 64
    pub below : (k : ℕ) → k < i → get_or after k 0 ≡ linked_at k
    pub above : (k : ℕ) → i ≤ k → get_or after k 0 ≡ get_or before k 0

  -- the place i is linked
  pub linked_more : (after : List ℕ) (i v : ℕ) → i < length after → v ≡ bit_or (get_or after i 0) (given (has last (i + 1)) next) → LinkedBelow after i → LinkedBelow (set after i v) (i + 1)
  linked_more after i v m e l = record {
    long = simp length-set l.long;
    below = rw (e ∙ ap (λ x. bit_or x (given (has last (i + 1)) next)) (l.above i (omega arith))) (fill_by_more linked_at after i 0 m l.below);
    above = λ k h. let ne : k ≢ i = omega arith in rw get_or-set_other (l.above k (omega arith));
  }
