-- The classes of an extent, one symbol more. Assumes nothing.
use Rattle.std.proofs.Common.{◌≡◌, ℕ, ◌+◌, ◌<◌, List, [], ◌∷◌, ◌++◌, map, length, get_or, take, drop, sym, ap, ◌∙◌, arith}
use lib.ListN.{length-map}
use Rattle.std.proofs.lemmas.List.{take_more, get_or-map, drop-map}

-- x is the i-th symbol, and c its class
module _ {X : Type 0} (f : X → ℕ) (xs : List X) (i : ℕ) (x : X) (c : ℕ) (below : i < length xs) (e : x ≡ get_or xs i x) (d : c ≡ f x) where
  pub class_at : (n : ℕ) → get_or (map f xs) i n ≡ c
  class_at n = get_or-map f xs i x n below ∙ ap f (sym e) ∙ sym d

  pub class_more : take (i + 1) (map f xs) ≡ take i (map f xs) ++ c ∷ []
  class_more = take_more (map f xs) i c (omega (arith, length-map xs f)) ∙ ap (λ y. take i (map f xs) ++ y ∷ []) (class_at c)

-- x is the i-th symbol behind a place, and c its class
pub next_class : {X : Type 0} (f : X → ℕ) (xs rest : List X) (place i : ℕ) (x : X) (c : ℕ) → rest ≡ drop place xs → i < length rest → x ≡ get_or rest i x → c ≡ f x
    → take (i + 1) (drop place (map f xs)) ≡ take i (drop place (map f xs)) ++ c ∷ []
next_class f xs rest place i x c r below e d =
    let same : drop place (map f xs) ≡ map f rest = drop-map f place xs ∙ sym (ap (map f) r) in
    rw same (class_more f rest i x c below e d)
