use Rattle.std.proofs.Common.{◌≡◌, ℕ, ◌+◌, ◌<◌, sym, refl, subst, arith}
use Rattle.meaning.specs.Words.{Line, Word, Of, classes}
use Rattle.meaning.specs.Alphabets.{seen}
use Rattle.meaning.specs.Doers.{stays, gives}
use Rattle.meaning.specs.Runs.{Means}
use Rattle.sheet.specs.Entries.{text_of}
use Rattle.playing.specs.Performances.{Offered}
use Rattle.playing.proofs.Led.{rest_of, length_rest, Comes, comes_last, led_more, led_not, led_all, led_first}
use Rattle.playing.proofs.Coded.{word_length, code_comes, set_next}
use Rattle.playing.proofs.performing.give_word.Given as given
use Rattle.playing.proofs.performing.give_word.Goals as goal
use Rattle.playing.proofs.performing.give_word.Goals.{After-first-set, After-code}

pub returns-then-not-give : goal.returns-then-not-give
returns-then-not-give g c x w m o e =
    led_not (gives x w) 0 c.open.result _ c.give.result (omega (arith, length_rest x w), sym (c.open.ensures x m), refl) stays c.if-not-give.true c.give.ensures

pub loop-i-init : goal.loop-i-init
loop-i-init g c x w m o e = (c.first-set.ensures x m, stays)

-- what becomes of the whole, from what becomes of the codes behind the first
behind : (g : given.Over) (c : After-first-set g) (x : Line) (w : Word) (m : Means (text_of c.args.line.now) x) (n k : ℕ) (u : g.D.Doer.State) → n + 1 ≡ k
    → Offered g.D.Doer.rule (g.D.Doer.state c.give.new.self) (rest_of x w) n u → Offered g.D.Doer.rule (g.D.Doer.state c.args.doer.now) (gives x w) k u
behind g c x w m n k u e p =
    subst (λ i. Offered g.D.Doer.rule (g.D.Doer.state c.args.doer.now) (gives x w) i u) e
    (led_first _ (rest_of x w) _ _ n c.give.result (sym (c.open.ensures x m)) refl c.if-not-give.false c.give.ensures p)

-- the code that is found at a place is the one that comes there
found : (g : given.Over) (c : After-code g) (x : Line) (w : Word) → Means (text_of c.args.line.now) x → Of x.expr w → classes w ≡ seen g.A.Alphabet.classed c.args.word.now
    → (c.class-class.result < 256) × Comes (rest_of x w) c.loop-i.i c.code.result c.class-class.result
found g c x w m o e =
    let counted = g.met.A.Alphabet.counted in
    let below : c.class-class.result < 256 = omega arith in (
      below,
      code_comes c.args.line.now x m w o g.A.Alphabet.classed c.args.word.now e c.loop-i.i c.index-word-i.result c.loop-i-test.true c.index-word-i.is c.loop-i.set
          c.class-class.result (c.loop-i.invariant x w m o e).0 c.class-class.ensures.value c.code.result (λ p. c.code.ensures x p m below),
    )

pub returns-then-not-give-2 : goal.returns-then-not-give-2
returns-then-not-give-2 g c x w m o e =
    let (below, comes) = found g (goal.at.returns-then-not-give-2 g c).After-code x w m o e in
    behind g (goal.at.returns-then-not-give-2 g c).After-first-set x w m c.loop-i.i _ _ refl
    (led_not (rest_of x w) c.loop-i.i _ _ c.give-in-loop-i.result comes (c.loop-i.invariant x w m o e).1 c.if-not-give-2.true c.give-in-loop-i.ensures)

pub loop-i-preserved : goal.loop-i-preserved
loop-i-preserved g c x w m o e =
    let (below, comes) = found g (goal.at.loop-i-preserved g c).After-code x w m o e in (
      set_next c.args.line.now x m w o g.A.Alphabet.classed c.args.word.now e c.loop-i.i c.index-word-i.result c.loop-i-test.true c.index-word-i.is c.loop-i.set
          c.class-class.result (c.loop-i.invariant x w m o e).0 c.class-class.ensures.value c.next-set.result (c.next-set.ensures x m below),
      led_more (rest_of x w) c.loop-i.i _ _ c.give-in-loop-i.result comes (c.loop-i.invariant x w m o e).1 c.if-not-give-2.false c.give-in-loop-i.ensures,
    )

pub returns-then-give : goal.returns-then-give
returns-then-give g c x w m o e =
    let many = word_length c.args.line.now x m w o g.A.Alphabet.classed c.args.word.now e in
    let comes = comes_last x w c.loop-i.i c.close.result (omega arith) (c.close.ensures x m) in
    behind g (goal.at.returns-then-give g c).After-first-set x w m (c.loop-i.i + 1) _ _ (omega arith)
    (led_all (rest_of x w) (c.loop-i.i + 1) (omega (arith, length_rest x w))
    (led_more (rest_of x w) c.loop-i.i _ _ c.give-2.result comes (c.loop-i.invariant x w m o e).1 c.if-give.true c.give-2.ensures))

pub returns-else-give : goal.returns-else-give
returns-else-give g c x w m o e =
    let many = word_length c.args.line.now x m w o g.A.Alphabet.classed c.args.word.now e in
    let comes = comes_last x w c.loop-i.i c.close.result (omega arith) (c.close.ensures x m) in
    behind g (goal.at.returns-else-give g c).After-first-set x w m c.loop-i.i _ _ (omega arith)
    (led_not (rest_of x w) c.loop-i.i _ _ c.give-2.result comes (c.loop-i.invariant x w m o e).1 c.if-give.false c.give-2.ensures)
