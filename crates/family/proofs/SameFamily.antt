-- Families are equal where `==` says so: each part is compared by a test that decides whether it is the same.
use Rattle.std.proofs.Common.{◌≡◌, Bool, true, false, ◌&&◌, Option, Some, None, refl, ap, sym, ◌∙◌}
use Rattle.std.specs.Prelude.{nat_eq}
use Rattle.std.specs.Bool.{Decides}
use Rattle.std.specs.Option.{option_eq}
use Rattle.std.specs.Cmp.{unsigned_Decides}
use Rattle.std.specs.Cmp.Lexicographic.{pointwise, pointwise_decides}
use Rattle.std.specs.Ordering.{eq_by_cmp}
use Rattle.std.proofs.lemmas.Bool.Decides.{Decides-and, Decides-like}
use Rattle.sparse_poly.specs.Equality.{one_polynomial, one_polynomial-Decides}
use Rattle.sector_lattice.specs.declared.sector.Sector.{Sector}
use Rattle.sector_lattice.specs.Sectors.{integral_cmp}
use Rattle.sector_lattice.specs.Orders.{integrals_decide}
use Rattle.family.specs.declared.family.Family.{Family}
use Rattle.family.specs.declared.parts.Bounds.{Bounds}
use Rattle.family.specs.declared.parts.Budget.{Budget}
use Rattle.family.specs.declared.parts.Field.{Field}
use Rattle.family.specs.declared.parts.Probe.{Probe}
use Rattle.family.specs.declared.parts.SectorCaps.{SectorCaps}
use Rattle.family.specs.contracts.parts.SelectionPartialEq.TheImpl.{eq-value}
use Rattle.family.specs.declared.parts.Selection.{Selection}
use Rattle.family.specs.declared.parts.Selection.TheVariants.{Order, Degree}
use Rattle.family.specs.FamilyView.{family_view}

abbrev same_sector : Sector → Sector → Bool
same_sector a b = nat_eq a.0 b.0

abbrev same_bounds : Bounds → Bounds → Bool
same_bounds a b = nat_eq a.dots_cap b.dots_cap && (nat_eq a.rank_cap b.rank_cap && (nat_eq a.extra_dots b.extra_dots && nat_eq a.extra_rank b.extra_rank))

abbrev same_caps : SectorCaps → SectorCaps → Bool
same_caps a b = same_sector a.sector b.sector && (nat_eq a.dots b.dots && nat_eq a.rank b.rank)

abbrev same_selection : Selection → Selection → Bool
same_selection a b = eq-value.it a b

abbrev same_budget : Budget → Budget → Bool
same_budget a b = nat_eq a.pairs b.pairs && (nat_eq a.candidates b.candidates && same_selection a.selection b.selection)

abbrev same_probe : Probe → Probe → Bool
same_probe a b = (pointwise one_polynomial a.field.a b.field.a && one_polynomial a.field.b b.field.b) && eq_by_cmp integral_cmp a.seed b.seed

-- what `==` computes of two families
abbrev pub same_family : Family → Family → Bool
same_family f g =
    pointwise nat_eq f.name g.name && (nat_eq f.n g.n && (nat_eq f.gamma g.gamma && (one_polynomial f.baikov g.baikov
    && (pointwise (eq_by_cmp integral_cmp) f.targets g.targets && (pointwise same_sector f.zero g.zero
    && (same_bounds f.bounds g.bounds && (pointwise same_caps f.caps g.caps && (pointwise (pointwise nat_eq) f.symmetries g.symmetries
    && (same_budget f.budget g.budget && option_eq same_probe f.probe g.probe)))))))))

pub decided_by : (r b : Bool) (P : Type 0) → r ≡ b → Decides b P → Decides r P
decided_by r b P same h = (λ yes. h.0 (sym same ∙ yes), λ p. same ∙ h.1 p)

sectors_decide : (a b : Sector) → Decides (same_sector a b) (a ≡ b)
sectors_decide a b = Decides-like _ (λ e i. record { 0 = e i }) (λ e i. (e i).0) (unsigned_Decides a.0 b.0)

bounds_decide : (a b : Bounds) → Decides (same_bounds a b) (a ≡ b)
bounds_decide a b =
    Decides-like _ (λ e i. record { dots_cap = e.0 i; rank_cap = e.1.0 i; extra_dots = e.1.1.0 i; extra_rank = e.1.1.1 i })
    (λ e. ((λ i. (e i).dots_cap), ((λ i. (e i).rank_cap), ((λ i. (e i).extra_dots), (λ i. (e i).extra_rank)))))
    (Decides-and _ _ (unsigned_Decides a.dots_cap b.dots_cap) (Decides-and _ _ (unsigned_Decides a.rank_cap b.rank_cap) (Decides-and _ _ (unsigned_Decides a.extra_dots b.extra_dots) (unsigned_Decides a.extra_rank b.extra_rank))))

caps_decide : (a b : SectorCaps) → Decides (same_caps a b) (a ≡ b)
caps_decide a b =
    Decides-like _ (λ e i. record { sector = e.0 i; dots = e.1.0 i; rank = e.1.1 i })
    (λ e. ((λ i. (e i).sector), ((λ i. (e i).dots), (λ i. (e i).rank))))
    (Decides-and _ _ (sectors_decide a.sector b.sector) (Decides-and _ _ (unsigned_Decides a.dots b.dots) (unsigned_Decides a.rank b.rank)))

order_or_degree : ◌≡◌ {A = Selection} Order Degree → ⊥
order_or_degree e = absurd (cc)

degree_or_order : ◌≡◌ {A = Selection} Degree Order → ⊥
degree_or_order e = absurd (cc)

selections_decide : (a b : Selection) → Decides (same_selection a b) (a ≡ b)
selections_decide Order Order = (λ e. refl, λ e. refl)
selections_decide Order Degree = (λ e. absurd (cc), λ e. absurd (order_or_degree e))
selections_decide Degree Order = (λ e. absurd (cc), λ e. absurd (degree_or_order e))
selections_decide Degree Degree = (λ e. refl, λ e. refl)

budget_decides : (a b : Budget) → Decides (same_budget a b) (a ≡ b)
budget_decides a b =
    Decides-like _ (λ e i. record { pairs = e.0 i; candidates = e.1.0 i; selection = e.1.1 i })
    (λ e. ((λ i. (e i).pairs), ((λ i. (e i).candidates), (λ i. (e i).selection))))
    (Decides-and _ _ (unsigned_Decides a.pairs b.pairs) (Decides-and _ _ (unsigned_Decides a.candidates b.candidates) (selections_decide a.selection b.selection)))

fields_decide : (a b : Field) → Decides (pointwise one_polynomial a.a b.a && one_polynomial a.b b.b) (a ≡ b)
fields_decide a b =
    Decides-like _ (λ e i. record { a = e.0 i; b = e.1 i }) (λ e. ((λ i. (e i).a), (λ i. (e i).b)))
    (Decides-and _ _ (pointwise_decides one_polynomial-Decides a.a b.a) (one_polynomial-Decides a.b b.b))

probes_decide : (a b : Probe) → Decides (same_probe a b) (a ≡ b)
probes_decide a b =
    Decides-like _ (λ e i. record { field = e.0 i; seed = e.1 i }) (λ e. ((λ i. (e i).field), (λ i. (e i).seed)))
    (Decides-and _ _ (fields_decide a.field b.field) (integrals_decide a.seed b.seed))

same_some : {X : Type 0} (x y : X) → ◌≡◌ {A = Option X} (Some x) (Some y) → x ≡ y
same_some x y e = cc

options_decide : {X : Type 0} (test : X → X → Bool) → ((x y : X) → Decides (test x y) (x ≡ y)) → (a b : Option X) → Decides (option_eq test a b) (a ≡ b)
options_decide test each None None = (λ e. refl, λ e. refl)
options_decide test each None (Some y) = (λ e. absurd (cc), λ e. absurd (cc))
options_decide test each (Some x) None = (λ e. absurd (cc), λ e. absurd (cc))
options_decide test each (Some x) (Some y) = (λ e. ap Some ((each x y).0 e), λ e. (each x y).1 (same_some x y e))

pub families_decide : (f g : Family) → Decides (same_family f g) (family_view f ≡ family_view g)
families_decide f g =
    Decides-like _
    (λ e i. record { name = e.0 i; n = e.1.0 i; gamma = e.1.1.0 i; baikov = e.1.1.1.0 i; targets = e.1.1.1.1.0 i; zero = e.1.1.1.1.1.0 i; bounds = e.1.1.1.1.1.1.0 i; caps = e.1.1.1.1.1.1.1.0 i; symmetries = e.1.1.1.1.1.1.1.1.0 i; budget = e.1.1.1.1.1.1.1.1.1.0 i; probe = e.1.1.1.1.1.1.1.1.1.1 i })
    (λ e. ((λ i. (e i).name), ((λ i. (e i).n), ((λ i. (e i).gamma), ((λ i. (e i).baikov), ((λ i. (e i).targets), ((λ i. (e i).zero), ((λ i. (e i).bounds), ((λ i. (e i).caps), ((λ i. (e i).symmetries), ((λ i. (e i).budget), (λ i. (e i).probe))))))))))))
    (Decides-and _ _ (pointwise_decides unsigned_Decides f.name g.name)
    (Decides-and _ _ (unsigned_Decides f.n g.n)
    (Decides-and _ _ (unsigned_Decides f.gamma g.gamma)
    (Decides-and _ _ (one_polynomial-Decides f.baikov g.baikov)
    (Decides-and _ _ (pointwise_decides integrals_decide f.targets g.targets)
    (Decides-and _ _ (pointwise_decides sectors_decide f.zero g.zero)
    (Decides-and _ _ (bounds_decide f.bounds g.bounds)
    (Decides-and _ _ (pointwise_decides caps_decide f.caps g.caps)
    (Decides-and _ _ (pointwise_decides (pointwise_decides unsigned_Decides) f.symmetries g.symmetries)
    (Decides-and _ _ (budget_decides f.budget g.budget) (options_decide same_probe probes_decide f.probe g.probe)))))))))))
