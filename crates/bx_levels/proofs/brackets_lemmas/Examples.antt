-- The definitions, computed on small examples.
use Rattle.std.proofs.Common.{◌≡◌, ℕ, [], ◌∷◌, ◌++◌, refl, Option, Some, None, replicate, cond, eqb, true, false}
use Rattle.bx_ucd.specs.Data.{Data}
use Rattle.bx_ucd.specs.declared.class.Class.TheVariants.{L, R, ON}
use Rattle.bx_ucd.specs.declared.joining.Joining.TheVariants.{U}
use Rattle.bx_ucd.specs.declared.data.Side.{Side}
use Rattle.bx_ucd.specs.declared.data.Side.TheVariants.{Opener, Closer}
use Rattle.bx_levels.specs.brackets.Pairs.{pairs}
use Rattle.bx_levels.specs.brackets.Resolve.{resolve_pairs}

-- round, square, and both kinds of angle brackets
abbrev bracket : ℕ → Option (Side × ℕ)
bracket c = cond (eqb c 40) (Some (Opener, 41))
    (cond (eqb c 41) (Some (Closer, 40))
    (cond (eqb c 91) (Some (Opener, 93))
    (cond (eqb c 93) (Some (Closer, 91)) (cond (eqb c 0x2329) (Some (Opener, 0x232a)) (cond (eqb c 0x3009) (Some (Closer, 0x3008)) None)))))

abbrev ucd : Data
ucd = record { class = λ _. L; bracket = bracket; mirror = λ _. None; joining = λ _. U; form = λ _ _. None }

-- a(b]c)
other_closer_passed : pairs ucd (97 ∷ 40 ∷ 98 ∷ 93 ∷ 99 ∷ 41 ∷ []) (replicate 6 ON) ≡ (1, 5) ∷ []
other_closer_passed = refl

-- (a[b)c]
crossing_opener_dropped : pairs ucd (40 ∷ 97 ∷ 91 ∷ 98 ∷ 41 ∷ 99 ∷ 93 ∷ []) (replicate 7 ON) ≡ (0, 4) ∷ []
crossing_opener_dropped = refl

-- ([])()
ordered_by_openers : pairs ucd (40 ∷ 91 ∷ 93 ∷ 41 ∷ 40 ∷ 41 ∷ []) (replicate 6 ON) ≡ (0, 3) ∷ (1, 2) ∷ (4, 5) ∷ []
ordered_by_openers = refl

brackets_of_another_type : pairs ucd (40 ∷ 41 ∷ []) (L ∷ ON ∷ []) ≡ []
brackets_of_another_type = refl

canonical_equivalents : pairs ucd (0x2329 ∷ 0x3009 ∷ []) (ON ∷ ON ∷ []) ≡ (0, 1) ∷ []
canonical_equivalents = refl

-- () and 63 openers, the last of them closed
bracket_stack_limit : pairs ucd (40 ∷ 41 ∷ (replicate 63 40 ++ (41 ∷ []))) (replicate 66 ON) ≡ (0, 1) ∷ (64, 65) ∷ []
bracket_stack_limit = refl

-- with a 64th opener the search ends, and the pair already found is kept
bracket_stack_overflow : pairs ucd (40 ∷ 41 ∷ (replicate 64 40 ++ (41 ∷ []))) (replicate 67 ON) ≡ (0, 1) ∷ []
bracket_stack_overflow = refl

-- a B ( ( G ) A d ) from left to right: the outer pair is L, so the inner one is too
inner_pair_sees_outer : resolve_pairs L L (replicate 9 false) ((2, 8) ∷ (3, 5) ∷ []) (L ∷ R ∷ ON ∷ ON ∷ R ∷ ON ∷ R ∷ L ∷ ON ∷ [])
    ≡ L ∷ R ∷ L ∷ L ∷ R ∷ L ∷ R ∷ L ∷ L ∷ []
inner_pair_sees_outer = refl

-- B ( G ) from left to right: the context is R too
pair_of_the_other_direction : resolve_pairs L L (replicate 4 false) ((1, 3) ∷ []) (R ∷ ON ∷ R ∷ ON ∷ []) ≡ R ∷ R ∷ R ∷ R ∷ []
pair_of_the_other_direction = refl

-- ( b ) and two nonspacing marks
nsms_follow_their_bracket : resolve_pairs L R (false ∷ false ∷ false ∷ true ∷ true ∷ []) ((0, 2) ∷ []) (ON ∷ L ∷ ON ∷ ON ∷ ON ∷ []) ≡ replicate 5 L
nsms_follow_their_bracket = refl
