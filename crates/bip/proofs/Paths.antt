-- Paths of a labelled transition system (001 definition 12).
use mathlib.Core.Path.{◌≡◌, refl, subst}
use mathlib.Core.List.{List, [], ◌∷◌, ◌++◌}
use Rattle.bip.specs.Steps.{Path, here, further}
use Rattle.bip.specs.Property.{Throughout}

module _ {S L : Type 0} {step : S → L → S → Type 0} where
  -- 001 definition 12: a path on σ · σ' is one on σ, then one on σ'.
  pub path_split : (σ σ' : List L) {s u : S} → Path step s (σ ++ σ') u → (t : S) × Path step s σ t × Path step t σ' u
  path_split [] σ' {s} r = (s, here, r)
  path_split (l ∷ σ) σ' (further h r) = let q = path_split σ σ' r in (q.0, further h q.1, q.2)

  -- 001 definition 12: a path on σ, then one on σ', is a path on σ · σ'.
  pub path_join : {s t u : S} {σ σ' : List L} → Path step s σ t → Path step t σ' u → Path step s (σ ++ σ') u
  path_join here r = r
  path_join (further h q) r = further h (path_join q r)

  -- what every step keeps, a path keeps
  pub path_keeps : (P : S → Type 0) → ((s : S) (l : L) (t : S) → step s l t → P s → P t) → {s t : S} {σ : List L} → Path step s σ t → P s → P t
  path_keeps P keeps here h = h
  path_keeps P keeps (further {s} {t} {u} {l} q r) h = path_keeps P keeps r (keeps s l t q h)

  -- where every label has one step, every sequence has one path
  pub path_once : ((s : S) (l : L) (t u : S) → step s l t → step s l u → t ≡ u) → {s t u : S} {σ : List L} → Path step s σ t → Path step s σ u → t ≡ u
  path_once once here here = refl
  path_once once (further {s} {t} {l} h q) (further {t = t'} {u} {ls} k r) =
      path_once once q (subst (λ (x : S). Path step x ls u) (once s l t' t k h) r)

  -- where every label has a step, every sequence has a path
  pub path_exists : (P : S → Type 0) → ((s : S) (l : L) → P s → (t : S) × step s l t × P t) → (s : S) → P s → (σ : List L) → (t : S) × Path step s σ t × P t
  path_exists P leads s h [] = (s, here, h)
  path_exists P leads s h (l ∷ σ) =
      let (t, k, h') = leads s l h in
      let (u, r, h'') = path_exists P leads t h' σ in
      (u, further k r, h'')

-- a part of the state that has steps of its own has paths of its own
pub path_part : {S T L : Type 0} {step : S → L → S → Type 0} {part_step : T → L → T → Type 0} (part : S → T)
    → ((s : S) (l : L) (t : S) → step s l t → part_step (part s) l (part t)) → {s t : S} {σ : List L} → Path step s σ t → Path part_step (part s) σ (part t)
path_part part steps here = here
path_part part steps (further {s} {t} {u} {l} h r) = further (steps s l t h) (path_part part steps r)

module _ {S L : Type 0} (step : S → L → S → Type 0) (P : S → Type 0) where
  -- steps that each lead to where P holds
  abbrev pub Into : S → L → S → Type 0
  Into s l t = step s l t × P t

  into_last : {s u : S} {l : L} {σ : List L} → Path Into s (l ∷ σ) u → P u
  into_last (further (h, k) here) = k
  into_last (further h (further k r)) = into_last (further k r)

  -- after every non-empty prefix of a path of such steps P holds
  pub into_throughout : {s u : S} {σ : List L} → Path Into s σ u → Throughout (λ τ. (t : S) × Path step s τ t × P t) σ
  into_throughout {s} {u} r a σ rest e =
      let (t, before, _) = path_split (a ∷ σ) rest (subst (λ (τ : List L). Path Into s τ u) e r) in
      (t, path_part (λ (x : S). x) (λ x l y k. k.0) before, into_last before)
