use Rattle.std.proofs.Common.{ℕ, ◌≤◌, List, length, arith}
use lib.ListN.{length-map}
use Rattle.std.proofs.lemmas.Result.{err_from_is_err_and}
use Rattle.meaning.specs.Words.{Line}
use Rattle.meaning.specs.Alphabets.{seen}
use Rattle.meaning.specs.Runs.{Mean}
use Rattle.plate.specs.Desks.{texts_of}
use Rattle.plate.proofs.Meant.{lines_of}
use Rattle.reading.proofs.Listing.{refused_out}
use Rattle.playing.specs.Performances.{refuses}
use Rattle.playing.proofs.Going.{Going, Ended, PieceOffered, going_end, going_stuck, going_more, going_broken}
use Rattle.playing.proofs.Pieced.{piece_line, piece_gives, Told, told_out}
use Rattle.playing.proofs.performing.play.Given as given
use Rattle.playing.proofs.performing.play.Goals as goal
use Rattle.playing.proofs.performing.play.Goals.{At-loop-place, After-loop-place, After-give_word-taken, In_default, Then-taken-piece}

pub returns-in_err-ready-clause-heard : goal.returns-in_err-ready-clause-heard
returns-in_err-ready-clause-heard g c e h =
    let p = err_from_is_err_and c.from_residual.result c.from_residual.ensures.1 in
    rw (p.1, p.2) (refuses (refused_out g.A.Alphabet.COUNT c.args.plate.now g.A.Alphabet.classed c.args.extent.now h _ e c.in_err-ready.ensures))

-- what is told where the loop is left, with the doer in the state t
abbrev ToldAt : (g : given.Over) (c : At-loop-place g) (codes why : ℕ) (t : g.D.Doer.State) → Type 0
ToldAt g c codes why t = Told c.args.plate.now g.A.Alphabet.classed c.args.extent.now g.D.Doer.rule (g.D.Doer.state c.args.doer.now) c.loop-place.pieces c.loop-place.place codes why t

told : (g : given.Over) (c : At-loop-place g) (codes why : ℕ) (t : g.D.Doer.State)
    → ((ls : List Line) → Mean (texts_of c.args.plate.now.desk) ls
    → Going g.D.Doer.rule ls (seen g.A.Alphabet.classed c.args.extent.now) (g.D.Doer.state c.args.doer.now) c.loop-place.pieces c.loop-place.place
    (g.D.Doer.state c.loop-place.doer)
    → Ended g.D.Doer.rule ls (seen g.A.Alphabet.classed c.args.extent.now) (g.D.Doer.state c.args.doer.now) c.loop-place.pieces c.loop-place.place codes why t)
    → ToldAt g c codes why t
told g c codes why t f =
    let r = c.in_ok-ready.ensures in
    told_out c.args.plate.now g.A.Alphabet.classed c.args.extent.now g.D.Doer.rule (g.D.Doer.state c.args.doer.now) c.loop-place.pieces c.loop-place.place codes why t
    r.1 r.2 (λ ls m. f ls m (c.loop-place.invariant.2 ls m))

-- where no piece is found
stuck : (g : given.Over) (c : In_default g) → ToldAt g (goal.at.In_default g c).At-loop-place 0 1 (g.D.Doer.state c.loop-place.doer)
stuck g c =
    let r = c.in_ok-ready.ensures in
    told g (goal.at.In_default g c).At-loop-place 0 1 _
    (λ ls m a. going_stuck _ ls _ _ _ a (omega (arith, length-map c.args.extent.now g.A.Alphabet.classed)) (c.in_default.ensures.cut r.0 r.1 ls m))

pub returns-in_default-clause-heard : goal.returns-in_default-clause-heard
returns-in_default-clause-heard g c n = (stuck g c).0

pub returns-in_default-clause-doer : goal.returns-in_default-clause-doer
returns-in_default-clause-doer g c = (stuck g c).1

pub returns-in_default-line : goal.returns-in_default-line
returns-in_default-line g c =
    let r = c.in_ok-ready.ensures in
    let (ls, m) = lines_of c.args.plate.now.desk in
    let fits : c.args.plate.now.desk.standing ≤ length c.args.plate.now.desk.entries = omega arith in
    let below = piece_line c.args.plate.now.desk ls fits m _ _ _ _ (c.in-Some.ensures.cut r.0 r.1 ls m) in
    let past = c.in_default-line.ensures in
    absurd (omega arith)

-- what the piece gives, and what became of that
offered : (g : given.Over) (c : After-give_word-taken g) (ls : List Line) → Mean (texts_of c.args.plate.now.desk) ls
    → PieceOffered g.D.Doer.rule ls (seen g.A.Alphabet.classed c.args.extent.now) c.loop-place.place c.in-Some.piece.line c.in-Some.piece.len
    (g.D.Doer.state c.loop-place.doer) c.give_word-taken.result (g.D.Doer.state c.give_word-taken.new.doer)
offered g c ls m =
    let r = c.in_ok-ready.ensures in
    let fits : c.args.plate.now.desk.standing ≤ length c.args.plate.now.desk.entries = omega arith in
    piece_gives g.A.Alphabet.classed g.D.Doer.rule c.args.plate.now.desk ls fits m c.args.extent.now c.loop-place.place c.in-Some.piece.line c.in-Some.piece.len
    (c.in-Some.ensures.cut r.0 r.1 ls m) c.in-Some-line.entry.now c.in-Some-line.ensures.1 _ _ c.give_word-taken.result c.give_word-taken.ensures

-- where a code of it is turned away
broken : (g : given.Over) (c : Then-taken-piece g) → ToldAt g (goal.at.Then-taken-piece g c).At-loop-place c.give_word-taken.result 3 (g.D.Doer.state c.give_word-taken.new.doer)
broken g c = told g (goal.at.Then-taken-piece g c).At-loop-place c.give_word-taken.result 3 _
    (λ ls m a. going_broken _ ls _ _ _ a (offered g (goal.at.Then-taken-piece g c).After-give_word-taken ls m) c.if-taken-piece.true)

pub returns-then-taken-piece-clause-heard : goal.returns-then-taken-piece-clause-heard
returns-then-taken-piece-clause-heard g c n = (broken g c).0

pub returns-then-taken-piece-clause-doer : goal.returns-then-taken-piece-clause-doer
returns-then-taken-piece-clause-doer g c = (broken g c).1

pub loop-place-preserved : goal.loop-place-preserved
loop-place-preserved g c =
    let p = c.in-Some.ensures.within in (
      omega arith,
      omega arith,
      λ ls m. going_more _ ls _ _ _ (c.loop-place.invariant.2 ls m) (offered g (goal.at.loop-place-preserved g c).After-give_word-taken ls m) c.if-taken-piece.false,
    )

-- where all was played
whole : (g : given.Over) (c : After-loop-place g) → ToldAt g (goal.at.After-loop-place g c).At-loop-place 0 0 (g.D.Doer.state c.loop-place.doer)
whole g c =
    told g (goal.at.After-loop-place g c).At-loop-place 0 0 _ (λ ls m a. going_end _ ls _ _ _ a (omega (arith, length-map c.args.extent.now g.A.Alphabet.classed)))

pub returns-clause-heard : goal.returns-clause-heard
returns-clause-heard g c n = (whole g c).0

pub returns-clause-doer : goal.returns-clause-doer
returns-clause-doer g c = (whole g c).1
