-- Calls are determined: from one account a call has one answer and one next account, and so has a run of calls from its opening on. Assumes nothing.
use Rattle.std.proofs.Common.{◌≡◌, ℕ, suc, ◌<◌, ◌≤◌, true, List, [], ◌∷◌, ◌++◌, map, length, drop, sym, refl, ap, ◌∙◌, subst, ap₂, subst₂, arith, length-append}
use mathlib.Core.Path.{subst₃}
use Rattle.std.proofs.lemmas.List.{same_from_push}
use Rattle.std.proofs.lemmas.Bool.{both_ways}
use Rattle.meaning.specs.Bounds.{most_states, longest_extent}
use Rattle.meaning.specs.Words.{Line, Clash}
use Rattle.meaning.specs.Positions.{FirstClash}
use Rattle.meaning.specs.States.{State, States, Tables, MoreThan64}
use Rattle.meaning.specs.declared.Piece.{Piece}
use Rattle.meaning.specs.Pieces.{Reading}
use Rattle.meaning.specs.Doers.{Rule}
use Rattle.meaning.specs.Runs.{Refusal, Call, Answer, Account, Means, Mean, fresh, Plate, TextRefused, size, fault, clash, TextAccepted, Taken, eight, turned_down, added, Built, empty, large, made, Plays, Refuses, unbuilt, long, Struck, none_stands, struck, Listed, refuses, read_out, Step, takes, strikes, builds, reads, refuses_play, plays, Called, away, heard, Run, opened, then, Kept}
use Rattle.meaning.specs.Asked.{Asked, gathered, Reply, told, Ran}
use Rattle.meaning.proofs.Numbers.{one_complete, few_states}
use Rattle.meaning.proofs.Cutting.{one_reading_lem}
use Rattle.meaning.proofs.Playing.{one_lead, one_play}
use Rattle.meaning.proofs.Cells.{one_moves, one_sets}
use Rattle.meaning.proofs.Judge.{one_fault}
use Rattle.meaning.proofs.Refusals.{one_first_clash, one_opening}
use Rattle.meaning.proofs.Unique.{one_meaning}

pub mean_length : (ts : List (List ℕ)) (ls : List Line) → Mean ts ls → length ts ≡ length ls
mean_length [] [] h = refl
mean_length [] (l ∷ ls) h = absurd h
mean_length (t ∷ ts) [] h = absurd h
mean_length (t ∷ ts) (l ∷ ls) h = ap suc (mean_length ts ls h.1)

one_line : (t : List ℕ) (l m : Line) → Means t l → Means t m → l ≡ m
one_line t l m h k = one_meaning t l m h.0 k.0 h.1 k.1

pub one_mean : (ts : List (List ℕ)) (ls ms : List Line) → Mean ts ls → Mean ts ms → ls ≡ ms
one_mean [] [] [] h k = refl
one_mean [] [] (m ∷ ms) h k = absurd k
one_mean [] (l ∷ ls) ms h k = absurd h
one_mean (t ∷ ts) [] ms h k = absurd h
one_mean (t ∷ ts) (l ∷ ls) [] h k = absurd k
one_mean (t ∷ ts) (l ∷ ls) (m ∷ ms) h k = ap₂ ◌∷◌ (one_line t l m h.0 k.0) (one_mean ts ls ms h.1 k.1)

module _ (count : ℕ) where
  pub one_refused : {t : List ℕ} {f g : Refusal} → TextRefused count t f → TextRefused count t g → f ≡ g
  one_refused (size h) (size k) = refl
  one_refused (size h) (fault n o f) = absurd (omega arith)
  one_refused (size h) (clash n o f m x y) = absurd (omega arith)
  one_refused (fault i j e) (size k) = absurd (omega arith)
  one_refused {t = t} (fault {n = n} {k = k} i j e) (fault {n = n'} {k = k'} y z f) =
      let (u, v) = one_fault count t n n' k k' e f in
      cc
  one_refused (fault {n = u} {k = v} i j e) (clash n o f m x y) = absurd (f u v e)
  one_refused (clash i j e m x y) (size k) = absurd (omega arith)
  one_refused (clash i j e m x y) (fault {n = u} {k = v} n o f) = absurd (e u v f)
  one_refused {t = t} (clash {l = l} {p = p} {q = q} i j e m x y) (clash {l = l'} {p = p'} {q = q'} n o f m' x' y') =
      let (u, v) = one_first_clash l p q p' q' y (subst (λ w. FirstClash w p' q') (sym (one_line t l l' m m')) y') in
      cc

  pub not_refused : {t : List ℕ} {f : Refusal} → TextRefused count t f → TextAccepted count t → ⊥
  not_refused (size h) k = omega (arith, k.some, k.short)
  not_refused (fault {n = u} {k = v} i j e) k = k.faultless u v e
  not_refused {t = t} (clash {l = l} i j e m x y) k = k.clear (subst (λ w. Clash w.expr) (one_line t l k.line m k.means) x)

module _ (count : ℕ) (a : Account) where
  one_taken : {t : List ℕ} {r r' : Answer} {b b' : Account} → Taken count a t r b → Taken count a t r' b' → (r ≡ r') × (b ≡ b')
  one_taken (eight h) (eight k) = (refl, refl)
  one_taken (eight h) (turned_down k n) = absurd (omega arith)
  one_taken (eight h) (added k n) = absurd (omega arith)
  one_taken (turned_down h i) (eight k) = absurd (omega arith)
  one_taken (turned_down h i) (turned_down k j) = (ap Answer.refused (one_refused count i j), refl)
  one_taken (turned_down h i) (added k n) = absurd (not_refused count i n)
  one_taken (added h i) (eight k) = absurd (omega arith)
  one_taken (added h i) (turned_down k n) = absurd (not_refused count n i)
  one_taken (added h i) (added k n) = (refl, refl)

  no_texts : (ls : List Line) → a.texts ≡ [] → Mean a.texts ls → 0 < length ls → ⊥
  no_texts ls e m h = omega (arith, mean_length a.texts ls m, ap length e)

  not_both : {ls ms : List Line} {all : List State} → Mean a.texts ls → Mean a.texts ms → MoreThan64 count ls → States count ms all → length all ≤ most_states → ⊥
  not_both {ls = ls} {ms = ms} {all = all} m n x s h = few_states count ms all s h (subst (MoreThan64 count) (one_mean a.texts ls ms m n) x)

  one_built : {r r' : Answer} {b b' : Account} → Built count a r b → Built count a r' b' → (r ≡ r') × (b ≡ b')
  one_built (empty h) (empty k) = (refl, refl)
  one_built (empty h) (large {ls = xs} m k x) = absurd (no_texts xs h m k)
  one_built (empty h) (made {ls = xs} m k s f t lm ls dm ds) = absurd (no_texts xs h m k)
  one_built (large {ls = xs} m h x) (empty k) = absurd (no_texts xs k m h)
  one_built (large m h x) (large n k y) = (refl, refl)
  one_built (large m h x) (made n k s f t lm ls dm ds) = absurd (not_both m n x s f)
  one_built (made {ls = xs} m h s f t lm ls dm ds) (empty k) = absurd (no_texts xs k m h)
  one_built (made m h s f t lm ls dm ds) (large n k x) = absurd (not_both n m x s f)
  one_built (made {ls = xs} {all = all} {moves = moves} {sets = sets} m h s f t lm ls dm ds) (made {ls = ys} {all = all'} {moves = moves'} {sets = sets'} n k s' f' t' lm' ls' dm' ds') =
      let e : ys ≡ xs = one_mean a.texts ys xs n m in
      let d : all' ≡ all = one_complete count xs all' all (subst (λ zs. States count zs all') e s') s in
      let u : Tables count xs all moves' sets' = subst₂ (λ zs every. Tables count zs every moves' sets') e d t' in
      let mv : moves ≡ moves' = one_moves count xs all s.numbers h moves moves' sets sets' t u (lm ∙ sym lm') (dm ∙ sym dm') in
      let st : sets ≡ sets' = one_sets count xs all s.numbers h moves moves' sets sets' t u (ls ∙ sym ls') (ds ∙ sym ds') in
      (cc, cc)

  one_refuses : {extent : List ℕ} {r r' : Refusal} → Refuses a extent r → Refuses a extent r' → r ≡ r'
  one_refuses (unbuilt h) (unbuilt k) = refl
  one_refuses (unbuilt h) (long k m) = absurd (both_ways a.built h k)
  one_refuses (long h m) (unbuilt k) = absurd (both_ways a.built k h)
  one_refuses (long h m) (long k n) = refl

  no_refusal : {extent : List ℕ} {r : Refusal} → Refuses a extent r → a.built ≡ true → length extent ≤ longest_extent → ⊥
  no_refusal (unbuilt h) k m = both_ways a.built h k
  no_refusal (long h m) k n = omega arith

  pub one_struck : {r r' : Answer} {b b' : Account} → Struck a r b → Struck a r' b' → (r ≡ r') × (b ≡ b')
  one_struck (none_stands h) (none_stands k) = (refl, refl)
  one_struck (none_stands h) (struck ts t k) = absurd (omega (arith, length-append ts (t ∷ []), ap length (sym h ∙ k)))
  one_struck (struck ts t h) (none_stands k) = absurd (omega (arith, length-append ts (t ∷ []), ap length (sym k ∙ h)))
  one_struck (struck ts t h) (struck ts' t' k) =
      let (e, f) = same_from_push ts ts' t t' (sym h ∙ k) in
      (cc, cc)

  pub one_listed : {extent : List ℕ} {list : List Piece} {r r' : Answer} → Listed a extent list r → Listed a extent list r' → r ≡ r'
  one_listed (refuses h) (refuses k) = let e = one_refuses h k in cc
  one_listed (refuses h) (read_out ls k m n x) = absurd (no_refusal h k m)
  one_listed (read_out ls h m n x) (refuses k) = absurd (no_refusal k h m)
  one_listed {extent = extent} {list = list} (read_out {pieces = ps} {place = s} {why = v} ls h m n x) (read_out {pieces = qs} {place = t} {why = w} ms h' m' n' x') =
      let e = one_mean a.texts ms ls n' n in
      let (f, g, i) = one_reading_lem ls extent (length list) ps qs s t v w x (subst (λ ys. Reading ys extent (length list) qs t w) e x') in
      cc

  module _ {S : Type 0} (rule : Rule S) (first : S) where
    pub one_step : {c : Call} {r r' : Answer} {b b' : Account} → Step count rule first a c r b → Step count rule first a c r' b' → (r ≡ r') × (b ≡ b')
    one_step (takes h) (takes k) = one_taken h k
    one_step (strikes h) (strikes k) = one_struck h k
    one_step (builds h) (builds k) = one_built h k
    one_step (reads h) (reads k) = (one_listed h k, refl)
    one_step (refuses_play h) (refuses_play k) = (ap Answer.refused (one_refuses h k), refl)
    one_step (refuses_play h) (plays ls k m n x p) = absurd (no_refusal h k m)
    one_step (plays ls h m n x p) (refuses_play k) = absurd (no_refusal k h m)
    one_step (plays {extent = extent} ls h m n x p) (plays ms {gs = gs} {s = s} {t = t} {pieces = ps} {place = pl} {codes = co} {why = wh} h' m' n' x' p') =
        let e = one_mean a.texts ms ls n' n in
        let q : Plays rule ls extent 0 s gs ps pl co wh t = subst (λ ys. Plays rule ys extent 0 s gs ps pl co wh t) e p' in
        let (f, g, i, j, k, u) = one_play rule ls extent p q refl (one_lead rule x x' refl refl) in
        (cc, cc)

    pub one_called : {plate : Plate} {c : Call} {r r' : Answer} {b b' : Account} → Called count rule first plate a c r b → Called count rule first plate a c r' b' → (r ≡ r') × (b ≡ b')
    one_called (away c h) (away d k) = (refl, refl)
    one_called (away c h) (heard k s) = absurd (h k)
    one_called (heard h s) (away d k) = absurd (k h)
    one_called (heard h s) (heard k t) = one_step s t

module _ (count : ℕ) {S : Type 0} (rule : Rule S) (first : S) where
  pub one_run : {p : Plate} {a : Account} {cs cs' : List Call} {rs rs' : List Answer} {z z' : Account} → Run count rule first p a cs rs z → Run count rule first p a cs' rs' z' → cs ≡ cs' → (rs ≡ rs') × (z ≡ z')
  one_run opened opened e = (refl, refl)
  one_run opened (then {cs = cs} c r h k f g) e = absurd (omega (arith, length-append cs (c ∷ []), ap length (e ∙ f)))
  one_run (then {cs = cs} c r h k f g) opened e = absurd (omega (arith, length-append cs (c ∷ []), ap length (sym e ∙ f)))
  one_run {p = p} (then {cs = cs} {b = b} c r h k f g) (then {cs = ds} {b = b'} {z = z'} d r' h' k' f' g') e =
      let (i, j) = same_from_push cs ds c d (sym f ∙ e ∙ f') in
      let (m, n) = one_run h h' i in
      let (x, y) = one_called count b rule first k (subst₂ (λ u v. Called count rule first p u v r' z') (sym n) (sym j) k') in
      (cc, y)

  pub one_kept : (moves sets : List ℕ) (cs : List Call) (rs rs' : List Answer) (moves₁ moves₂ sets₁ sets₂ : List ℕ) (s t : S)
      → Kept count rule first moves sets cs rs moves₁ sets₁ s → Kept count rule first moves sets cs rs' moves₂ sets₂ t
      → (rs ≡ rs') × (moves₁ ≡ moves₂) × (sets₁ ≡ sets₂) × (s ≡ t)
  one_kept moves sets cs rs rs' moves₁ moves₂ sets₁ sets₂ s t a b =
      let (p, m, n) = one_opening a.opening b.opening in
      let again : Run count rule first a.plate (fresh a.zero_moves a.zero_sets) cs rs' b.account
      = subst₃ (λ x y z. Run count rule first x (fresh y z) cs rs' b.account) (sym p) (sym m) (sym n) b.run in
      let (e, f) = one_run a.run again refl in (
        e,
        a.same_moves ∙ ap (λ x. x.moves) f ∙ sym b.same_moves,
        a.same_sets ∙ ap (λ x. x.sets) f ∙ sym b.same_sets,
        one_lead rule a.leads b.leads refl (ap (λ x. x.history) f),
      )

  pub one_ran : (moves sets : List ℕ) (asked : List Asked) (lists : List Piece) (answers : List Reply)
      (moves₁ moves₂ sets₁ sets₂ : List ℕ) (s t : S) (lists₁ lists₂ : List Piece) (answers₁ answers₂ : List Reply)
      → Ran count rule first moves sets asked lists answers moves₁ sets₁ s lists₁ answers₁
      → Ran count rule first moves sets asked lists answers moves₂ sets₂ t lists₂ answers₂
      → (moves₁ ≡ moves₂) × (sets₁ ≡ sets₂) × (s ≡ t) × (lists₁ ≡ lists₂) × (answers₁ ≡ answers₂)
  one_ran moves sets asked lists answers moves₁ moves₂ sets₁ sets₂ s t lists₁ lists₂ answers₁ answers₂ a b =
      let (e, f, g, h) = one_kept moves sets _ a.all b.all moves₁ moves₂ sets₁ sets₂ s t a.kept b.kept in (
        f,
        g,
        h,
        a.same_lists ∙ ap (λ rs. gathered rs ++ drop (length (gathered rs)) lists) e ∙ sym b.same_lists,
        a.same_answers ∙ ap (λ rs. map told rs ++ drop (length rs) answers) e ∙ sym b.same_answers,
      )

  pub one_account : (moves sets : List ℕ) (cs : List Call) (rs rs' : List Answer) (moves₁ moves₂ sets₁ sets₂ : List ℕ) (s t : S)
      (h : Kept count rule first moves sets cs rs moves₁ sets₁ s) (k : Kept count rule first moves sets cs rs' moves₂ sets₂ t) → h.account ≡ k.account
  one_account moves sets cs rs rs' moves₁ moves₂ sets₁ sets₂ s t a b =
      let (p, m, n) = one_opening a.opening b.opening in
      (one_run a.run (subst₃ (λ x y z. Run count rule first x (fresh y z) cs rs' b.account) (sym p) (sym m) (sym n) b.run) refl).1
