-- A play from its start, as pieces are played whole, and its end. Assumes nothing.
use Rattle.std.proofs.Common.{◌≡◌, ℕ, ◌+◌, ◌<◌, ◌≤◌, List, ◌∷◌, ◌++◌, length, take, drop, sym, ap, subst, append_assoc, arith, length-append}
use Rattle.meaning.specs.Words.{Line}
use Rattle.meaning.specs.Pieces.{Cut, NothingAt}
use Rattle.meaning.specs.Doers.{Given, Rule, Leads, Gives}
use Rattle.meaning.specs.Runs.{Plays, at_end, no_piece, broken, whole}
use Rattle.playing.specs.Performances.{Offered, all, some}

module _ {S : Type 0} (rule : Rule S) (ls : List Line) (extent : List ℕ) where
  -- from the start in the state s, pieces were played whole up to a place and the state t: a play from there is one from the start
  abbrev pub Going : S → (pieces place : ℕ) → S → Type 0
  Going s pieces place t = (gs : List Given) × ((more : List Given) (n stop codes why : ℕ) (u : S)
      → Plays rule ls extent place t more n stop codes why u → Plays rule ls extent 0 s (gs ++ more) (pieces + n) stop codes why u)

  -- a play from the start in the state s that ends so
  abbrev pub Ended : S → (pieces stop codes why : ℕ) → S → Type 0
  Ended s pieces stop codes why t = (gs : List Given) × Plays rule ls extent 0 s gs pieces stop codes why t

  -- a piece, what it gives, and what becomes of that
  pub record PieceOffered (place k n : ℕ) (s : S) (taken : ℕ) (t : S) : Type 0 where
    pub cut : Cut ls extent place k n
    pub given : List Given
    pub gives : Gives ls k (take n (drop place extent)) given
    pub many : length given ≡ n + 2
    pub offered : Offered rule s given taken t

  all_taken : {s t : S} (gs : List Given) {taken : ℕ} → length gs ≤ taken → Offered rule s gs taken t → Leads rule s gs t
  all_taken gs h (all l) = l
  all_taken gs h (some {gone = gone} {g = x} rest e l r) = absurd (omega (arith, ap length e, length-append gone (x ∷ rest)))

  module _ {s t : S} (pieces place : ℕ) (a : Going s pieces place t) where
    ends : {u : S} {gs : List Given} {stop codes why : ℕ} → Plays rule ls extent place t gs 0 stop codes why u → Ended s pieces stop codes why u
    ends {u} {gs} {stop} {codes} {why} p = (a.0 ++ gs, subst (λ k. Plays rule ls extent 0 s (a.0 ++ gs) k stop codes why u) (omega arith) (a.1 gs 0 stop codes why u p))

    pub going_end : place ≡ length extent → Ended s pieces place 0 0 t
    going_end e = ends (at_end e)

    pub going_stuck : place < length extent → NothingAt ls extent place → Ended s pieces place 0 1 t
    going_stuck h n = ends (no_piece h n)

    module _ {k n taken : ℕ} {u : S} (p : PieceOffered place k n t taken u) where
      -- all of a piece is taken
      pub going_more : n + 2 ≤ taken → Going s (pieces + 1) (place + n) u
      going_more h = (
        a.0 ++ p.given,
        λ more m stop codes why v q.
            subst (λ gs. Plays rule ls extent 0 s gs (pieces + 1 + m) stop codes why v) (sym (append_assoc a.0 p.given more))
            (subst (λ i. Plays rule ls extent 0 s (a.0 ++ (p.given ++ more)) i stop codes why v) (omega arith)
            (a.1 (p.given ++ more) (m + 1) stop codes why v (whole p.cut p.gives (all_taken p.given (omega (arith, p.many)) p.offered) q))),
      )

      -- a code of it is turned away
      pub going_broken : taken < n + 2 → Ended s pieces place taken 3 u
      going_broken h = turned_away (omega (arith, p.many)) p.offered
        where
          turned_away : {i : ℕ} {v : S} → i < length p.given → Offered rule t p.given i v → Ended s pieces place i 3 v
          turned_away less (all l) = absurd (omega arith)
          turned_away less (some rest e l r) = ends (broken rest p.cut p.gives e l r)
