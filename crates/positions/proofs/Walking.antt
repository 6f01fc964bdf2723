-- What stands behind a place of a list. Assumes nothing.
use Rattle.std.proofs.Common.{◌≡◌, ℕ, ◌+◌, ◌-◌, List, length, get_or, take, drop, ap, ◌∙◌, length-drop, get_or-drop}
use Rattle.std.proofs.lemmas.List.{take_rest}

module _ {A : Type 0} (xs : List A) (n : ℕ) where
  -- the part of the list behind the place n
  abbrev pub behind : List A
  behind = take (length xs - n) (drop n xs)

  pub length-behind : length behind ≡ length xs - n
  length-behind = ap length (take_rest xs n) ∙ length-drop n xs

  -- the i-th of it is what stands at the index n + i
  pub item_is : (i : ℕ) (d : A) → get_or behind i d ≡ get_or xs (n + i) d
  item_is i d = ap (λ ys. get_or ys i d) (take_rest xs n) ∙ get_or-drop n xs i d
