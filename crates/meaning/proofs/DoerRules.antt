-- The states of tape and slip, by what their rules give: within the cells, eight registers, none too high. Assumes nothing.
use Rattle.std.proofs.Common.{◌≡◌, ℕ, zero, suc, ◌+◌, ◌-◌, ◌*◌, ◌≤◌, Bool, true, false, cond, ◌&&◌, eqb, ltb, leb, ◌⊎◌, List, [], ◌∷◌, ◌++◌, length, get_or, set, Some, None, Option, refl, ◌∙◌, subst, inl, inr, arith, length-append, length-set}
use Rattle.std.proofs.lemmas.List.{get_or-replicate}
use Rattle.std.proofs.lemmas.Bool.{cond_both, leb-true, ltb-true, ltb-false}
use Rattle.std.proofs.lemmas.Bool.Decides.{nat_tests}
use Rattle.meaning.specs.Doers.{Given, Tape, tape_rule, slip_rule, Leads, stays, takes}
use Rattle.meaning.specs.DoerLaws.{Within, TapeLaw, Registers, SlipLaw}

-- what the tape's rule gives: one code more and no other cell, or nothing since it is full
abbrev Taped : Tape → ℕ → Option Tape → Type 0
Taped t code (Some u) = Within u × (u.room ≡ t.room) × (u.held ≡ t.held ++ code ∷ [])
Taped t code None = t.room ≤ length t.held

taped : (t : Tape) (code mark : ℕ) → Taped t code (tape_rule t code mark)
taped t code mark = cond_both (ltb (length t.held) t.room) (Some (record { room = t.room; held = t.held ++ code ∷ [] })) None (Taped t code)
    (λ e. (omega (arith, ltb-true (length t.held) t.room e, length-append t.held (code ∷ [])), refl, refl))
    (λ e. omega (arith, ltb-false (length t.held) t.room e))

pub tape_law_lem : TapeLaw
tape_law_lem = record {
  fresh = λ room. omega arith;
  within = λ t u code mark e. (subst (Taped t code) e (taped t code mark)).0;
  full = λ t code mark h. (
    (λ e. let k : t.room ≤ length t.held = subst (Taped t code) e (taped t code mark) in omega arith),
    λ e. grind (arith, nat_tests),
  );
  keeps = λ t u code mark e. let k = subst (Taped t code) e (taped t code mark) in (k.1, k.2);
}

-- a list that is written at one place has there what is written, or what it had
pub written_or_kept : {A : Type 0} (xs : List A) (i r : ℕ) (a d : A) → (get_or (set xs i a) r d ≡ a) ⊎ (get_or (set xs i a) r d ≡ get_or xs r d)
written_or_kept [] i r a d = inr refl
written_or_kept (x ∷ xs) zero zero a d = inl refl
written_or_kept (x ∷ xs) zero (suc r) a d = inr refl
written_or_kept (x ∷ xs) (suc i) zero a d = inr refl
written_or_kept (x ∷ xs) (suc i) (suc r) a d = written_or_kept xs i r a d

registers_set : (rs : List ℕ) (i n : ℕ) → Registers rs → n ≤ 999999999999 → Registers (set rs i n)
registers_set rs i n h k = (length-set rs i n ∙ h.0, λ r o. omega (arith, written_or_kept rs i r n 0, h.1 r o))

-- what the slip's rule gives
abbrev Slipped : Option (List ℕ) → Type 0
Slipped (Some qs) = Registers qs
Slipped None = Unit {0}

registered_stays : (rs : List ℕ) (i n : ℕ) → Registers rs → Slipped (cond (leb n 999999999999) (Some (set rs i n)) None)
registered_stays rs i n h = cond_both (leb n 999999999999) (Some (set rs i n)) None Slipped (λ e. registers_set rs i n h (leb-true n 999999999999 e)) (λ _. tt)

-- either way
either : (b : Bool) (x y : Option (List ℕ)) → Slipped x → Slipped y → Slipped (cond b x y)
either true x y h k = h
either false x y h k = k

slipped : (rs : List ℕ) (code mark : ℕ) → Registers rs → Slipped (slip_rule rs code mark)
slipped rs code mark h =
    either (eqb code 0) (Some rs) cleared h
    (either (leb 16 code && ltb code (16 + 8)) (Some (set rs (code - 16) 0)) written (registers_set rs (code - 16) 0 h (omega arith))
    (either (leb 32 code && ltb code (32 + 8)) digit counted
    (either (leb 48 mark && leb mark 57) (put (code - 32) next) None (registered_stays rs (code - 32) next h) tt)
    (either (leb 48 code && ltb code (48 + 8)) (put (code - 48) more) None (registered_stays rs (code - 48) more h) tt)))
  where
    next : ℕ
    next = get_or rs (code - 32) 0 * 10 + (mark - 48)

    more : ℕ
    more = get_or rs (code - 48) 0 + 1

    put : ℕ → ℕ → Option (List ℕ)
    put r n = cond (leb n 999999999999) (Some (set rs r n)) None

    counted : Option (List ℕ)
    counted = cond (leb 48 code && ltb code (48 + 8)) (put (code - 48) more) None

    digit : Option (List ℕ)
    digit = cond (leb 48 mark && leb mark 57) (put (code - 32) next) None

    written : Option (List ℕ)
    written = cond (leb 32 code && ltb code (32 + 8)) digit counted

    cleared : Option (List ℕ)
    cleared = cond (leb 16 code && ltb code (16 + 8)) (Some (set rs (code - 16) 0)) written

slip_stays : (rs qs : List ℕ) (code mark : ℕ) → Registers rs → slip_rule rs code mark ≡ Some qs → Registers qs
slip_stays rs qs code mark h e = subst Slipped e (slipped rs code mark h)

slip_leads : {rs qs : List ℕ} {gs : List Given} → Registers rs → Leads slip_rule rs gs qs → Registers qs
slip_leads h stays = h
slip_leads h (takes {s = s} {t = t} {g = g} e m) = slip_leads (slip_stays s t g.code g.mark h e) m

pub slip_law_lem : SlipLaw
slip_law_lem = record {
  fresh = (refl, λ r h. omega (arith, get_or-replicate {A = ℕ} 8 r 0 0 h));
  stays = slip_stays;
  leads = λ rs qs gs h m. slip_leads h m;
}
