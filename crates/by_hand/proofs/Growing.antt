-- A run that grows by one call at a time.
use Rattle.std.proofs.Common.{◌≡◌, ℕ, List, [], ◌∷◌, ◌++◌, map, sym, refl, ap, ◌∙◌, subst}
use Rattle.std.proofs.lemmas.List.{map-append}
use Rattle.meaning.specs.declared.Piece.{Piece}
use Rattle.meaning.specs.Doers.{Given, Rule, Leads, stays}
use Rattle.meaning.specs.Runs.{Call, Answer, Account, fresh, Plate, Opens, Called, Run, opened, then, Kept}
use Rattle.meaning.specs.Asked.{Asked, Reply, told}
use Rattle.runs.specs.Asking.{plate_of, lent, Made}
use Rattle.runs.proofs.Underway.{run_kept}

-- the calls so far, with what they told, the account then, and the doer's state
pub record SoFar (count : ℕ) {S : Type 0} (rule : Rule S) (first : S) (plate : Plate) (start : Account) (calls : List Call) (replies : List Reply) (after : List Given → Account) (s : S) : Type 0 where
  pub all : List Answer
  pub history : List Given
  pub run : Run count rule first plate start calls all (after history)
  pub replied : map told all ≡ replies
  pub leads : Leads rule first history s

module _ (count : ℕ) {S : Type 0} (rule : Rule S) (first : S) where
  -- on the plate that was just opened
  pub none_yet : (plate : Plate) (moves sets : List ℕ) (after : List Given → Account) → after [] ≡ fresh moves sets → SoFar count rule first plate (fresh moves sets) [] [] after first
  none_yet plate moves sets after e = record {
    all = [];
    history = [];
    run = subst (λ z. Run count rule first plate (fresh moves sets) [] [] z) (sym e) opened;
    replied = refl;
    leads = stays;
  }

  -- one call more
  pub one_more : (plate : Plate) (start : Account) (calls : List Call) (replies : List Reply) (after : List Given → Account) (s : S)
      → SoFar count rule first plate start calls replies after s → (desk_count : ℕ) → plate ≡ plate_of desk_count
      → (q : Asked) (list list' : List Piece) (reply : Reply) (after' : List Given → Account) (t : S)
      → ((h : List Given) → Leads rule first h s → Made count rule first desk_count (after h) q list reply after' list' t)
      → SoFar count rule first plate start (calls ++ lent q list ∷ []) (replies ++ reply ∷ []) after' t
  one_more plate start calls replies after s now desk_count same_plate q list list' reply after' t makes =
      let made = makes now.history now.leads in
      record {
        all = now.all ++ made.answer ∷ [];
        history = made.history;
        run = then (lent q list) made.answer now.run
            (subst (λ p. Called count rule first p (after now.history) (lent q list) made.answer (after' made.history)) (sym same_plate) made.called) refl refl;
        replied = map-append told now.all (made.answer ∷ []) ∙ ap (λ rs. rs ++ told made.answer ∷ []) now.replied ∙ ap (λ r. replies ++ r ∷ []) (sym made.same_reply);
        leads = made.leads;
      }

  -- after the last call
  pub all_made : (plate : Plate) (moves sets zero_moves zero_sets : List ℕ) (calls : List Call) (replies : List Reply) (after : List Given → Account) (s : S) (moves' sets' : List ℕ)
      → Opens count moves sets plate zero_moves zero_sets → SoFar count rule first plate (fresh zero_moves zero_sets) calls replies after s
      → ((h : List Given) → ((after h).history ≡ h) × (moves' ≡ (after h).moves) × (sets' ≡ (after h).sets))
      → (all : List Answer) × Kept count rule first moves sets calls all moves' sets' s × (map told all ≡ replies)
  all_made plate moves sets zero_moves zero_sets calls replies after s moves' sets' opening end same =
      (end.all, run_kept count rule first opening end.run end.leads (same end.history), end.replied)
