use Rattle.std.proofs.Common.{ℕ, ◌+◌, List, length, drop, sym, refl, ap, ◌∙◌, arith}
use lib.ListN.{length-map}
use Rattle.std.proofs.lemmas.List.{drop-set-lt, length-set, drop-drop}
use Rattle.std.proofs.lemmas.Result.{err_from_is_err_and}
use Rattle.meaning.specs.Words.{Line}
use Rattle.meaning.specs.Alphabets.{seen}
use Rattle.meaning.specs.Pieces.{none, Why, at_end, no_piece, full}
use Rattle.meaning.specs.Doers.{Given}
use Rattle.meaning.specs.Runs.{Mean, Listed, refuses, listed}
use Rattle.plate.specs.Desks.{texts_of}
use Rattle.plate.specs.Plates.{account}
use Rattle.reading.proofs.Listing.{cuts_written, heard_out, refused_out}
use Rattle.reading.proofs.cutting.read.Given as given
use Rattle.reading.proofs.cutting.read.Goals as goal
use Rattle.reading.proofs.cutting.read.Goals.{At-loop-place}

pub loop-place-preserved : goal.loop-place-preserved
loop-place-preserved g c =
    let r = c.in_ok-ready.ensures in
    let p = c.in-Some.ensures in (
      omega (arith, p.within),
      omega (arith, length-set c.loop-place.list c.loop-place.listed c.in-Some.piece),
      drop-set-lt (c.loop-place.listed + 1) c.loop-place.list c.loop-place.listed c.in-Some.piece (omega arith)
          ∙ sym (drop-drop 1 c.loop-place.listed c.loop-place.list) ∙ ap (drop 1) c.loop-place.invariant.2 ∙ drop-drop 1 c.loop-place.listed c.args.list.now,
      λ ls m. cuts_written ls _ c.loop-place.list c.loop-place.listed c.loop-place.place c.in-Some.piece (omega arith) (c.loop-place.invariant.3 ls m) p.within.0
          (p.cut r.0 r.1 ls m),
    )

pub loop-place-init : goal.loop-place-init
loop-place-init g c = (omega arith, omega arith, refl, λ ls m. none)

pub returns-in_err-ready-clause-heard : goal.returns-in_err-ready-clause-heard
returns-in_err-ready-clause-heard g c e h =
    let p = err_from_is_err_and c.from_residual.result c.from_residual.ensures.1 in
    rw (p.1, p.2) (refuses (refused_out g.A.Alphabet.COUNT c.args.plate.now g.A.Alphabet.classed c.args.extent.now h _ e c.in_err-ready.ensures))

-- what is told where the read ends
told : (g : given.Over) (c : At-loop-place g) (why : ℕ)
    → ((ls : List Line) → Mean (texts_of c.args.plate.now.desk) ls → Why ls (seen g.A.Alphabet.classed c.args.extent.now) (length c.args.list.now) c.loop-place.listed c.loop-place.place why)
    → (h : List Given) → Listed (account c.args.plate.now h) (seen g.A.Alphabet.classed c.args.extent.now) c.args.list.now (listed c.loop-place.list c.loop-place.listed c.loop-place.place why)
told g c why f =
    let r = c.in_ok-ready.ensures in
    heard_out c.args.plate.now g.A.Alphabet.classed c.args.extent.now c.args.list.now c.loop-place.list c.loop-place.listed c.loop-place.place why
    r.1 r.2 c.loop-place.invariant.1 (omega arith) c.loop-place.invariant.2 (λ ls m. (c.loop-place.invariant.3 ls m, f ls m))

pub returns-in_default-clause-heard : goal.returns-in_default-clause-heard
returns-in_default-clause-heard g c _ =
    let r = c.in_ok-ready.ensures in
    told g (goal.at.returns-in_default-clause-heard g c).At-loop-place 1
    (λ ls m. no_piece (omega (arith, length-map c.args.extent.now g.A.Alphabet.classed)) (c.in_default.ensures.cut r.0 r.1 ls m))

pub returns-then-listed-list-clause-heard : goal.returns-then-listed-list-clause-heard
returns-then-listed-list-clause-heard g c _ =
    let r = c.in_ok-ready.ensures in
    told g (goal.at.returns-then-listed-list-clause-heard g c).At-loop-place 2 (λ ls m. full (c.in-Some.ensures.cut r.0 r.1 ls m) (omega arith))

pub returns-clause-heard : goal.returns-clause-heard
returns-clause-heard g c _ =
    told g (goal.at.returns-clause-heard g c).At-loop-place 0 (λ ls m. at_end (omega (arith, length-map c.args.extent.now g.A.Alphabet.classed)))
