-- What the code asks of a message, by what the length rule alone finds in it; and that in a message which reading accepts this is what the
-- profile asks of its record.
use Rattle.std.specs.Prelude.{ℕ, ◌≡◌, Bool, cond, ◌&&◌, ◌||◌, List, [], eqb, get_or}
use Rattle.std.proofs.Common.{arith, sym, ◌∙◌}
use Rattle.std.proofs.Math.Path.{refl, ap}
use Rattle.std.proofs.Math.Bool.{true, false, not, and-true, not-not}
use Rattle.annex.specs.Units.{name_of}
use Rattle.annex.specs.Heads.{signal_kind, often_of, form_of}
use Rattle.annex.specs.Items.{Item, plain_item}
use Rattle.annex.specs.Allowed.{every, is_octet, items_in}
use Rattle.annex.specs.Reading.{verdict_of, record_of}
use Rattle.annex.specs.Finding.{found_part}
use Rattle.annex.specs.Walking.{common_plain, transfer_plain}
use Rattle.annex.specs.Profile.{
  pairs_in,
  pairs_right,
  data_enquiry,
  adjacent_network,
  phs,
  mobile,
  originating_region,
  added_class,
  some,
  is_enquiry,
  is_headed,
  is_network,
  added_right,
  is_in_profile,
  values_under,
}
use Rattle.annex.specs.Answers.{Accepted, Found, At, Nowhere}
use Rattle.annex.specs.declared.Check.TheVariants.{Nothing}
use Rattle.annex.specs.declared.Form.TheVariants.{Checked}
use Rattle.annex.specs.declared.Network.{Network}
use Rattle.annex.specs.declared.Network.TheVariants.{Other, Phs, Mobile}
use Rattle.laws.specs.Finding.{common_plain_lem, transfer_plain_lem}
use Rattle.theorems.specs.Messages.{read_then_laid}
use Rattle.theorems.specs.Places.{is_found}
use Rattle.theorems.specs.Headed.{every_some, named_alone, found_in, part_in, some_found, values_found, kind_found}

-- ---- what the code asks

-- where the contents of the first transfer parameter with the header's name stand
abbrev pub headed : ℕ → List ℕ → Found
headed h m = transfer_plain (name_of h) 0 m

abbrev pub contents_under : ℕ → List ℕ → List ℕ
contents_under h m = found_part m (headed h m)

-- what 06 and 7E say, 0 where they do not stand
abbrev pub kind_in : List ℕ → ℕ
kind_in m = get_or (found_part m (common_plain signal_kind m)) 0 0

abbrev pub network_in : List ℕ → ℕ
network_in m = get_or (contents_under adjacent_network m) 0 0

-- and which network that is
abbrev pub network_said : ℕ → Network
network_said x = cond (eqb x phs) Phs (cond (eqb x mobile) Mobile Other)

unfoldable pub keeps_plain : List ℕ → Bool
keeps_plain m =
    eqb (kind_in m) data_enquiry
    && ((eqb (network_in m) phs || eqb (network_in m) mobile)
    && (is_found (headed originating_region m)
    && (cond (eqb (network_in m) mobile) (is_found (headed added_class m)) true
    && pairs_right (contents_under added_class m))))

-- ---- in a message that reading accepts

-- nothing found has no octets
none_part : (m : List ℕ) (f : Found) → is_found f ≡ false → found_part m f ≡ []
none_part m (At s e) z = absurd (let w : ◌≡◌ {A = ℕ} 0 1 = cc in omega arith)
none_part m Nowhere z = refl

-- 7E, FD and D6 are held as their contents, and each alone has its name, which stands once at most
abbrev Alone : ℕ → Type 0
Alone h = (form_of h ≡ Checked Nothing) × (named_alone h ≡ true) × (often_of (name_of h) ≡ 1)

network_alone : Alone adjacent_network
unfolding form_of often_of
network_alone = (refl, refl, refl)

region_alone : Alone originating_region
unfolding form_of often_of
region_alone = (refl, refl, refl)

added_alone : Alone added_class
unfolding form_of often_of
added_alone = (refl, refl, refl)

-- a test that fails only at D6 passes elsewhere
only_added : (i : Item) → not (added_right i) ≡ true → is_headed added_class i ≡ true
only_added i e = go (is_headed added_class i) e
  where
    go : (b : Bool) → not (cond b (pairs_right i.values) true) ≡ true → b ≡ true
    go true f = refl
    go false f = absurd (let z : ◌≡◌ {A = ℕ} 0 1 = cc in omega arith)

only_network : (x : ℕ) (i : Item) → is_network x i ≡ true → is_headed adjacent_network i ≡ true
only_network x i e = go (is_headed adjacent_network i) e
  where
    go : (b : Bool) → b && eqb (get_or i.values 0 0) x ≡ true → b ≡ true
    go true f = refl
    go false f = absurd (let z : ◌≡◌ {A = ℕ} 0 1 = cc in omega arith)

module _ (m : List ℕ) (o : every is_octet m ≡ true) (n : ℕ) (e : verdict_of m ≡ Accepted n) where
  found_same : (h : ℕ) → found_in h (record_of m) ≡ headed h m
  found_same h = rw (read_then_laid m o n e).2 (transfer_plain_lem (name_of h) 0 m n e)

  part_same : (h : ℕ) → part_in h (record_of m) ≡ contents_under h m
  part_same h = rw (found_same h, (read_then_laid m o n e).2, e)

  -- a test of those with such a header, and their values
  some_under : (h : ℕ) → Alone h → (t : Item → Bool) → ((i : Item) → t i ≡ true → is_headed h i ≡ true)
      → some t (items_in (record_of m)) ≡ is_found (headed h m) && t (plain_item h (contents_under h m))
  some_under h a t only =
      rw (part_same h, found_same h) at (some_found h Nothing a.0 a.1 a.2 (record_of m) (read_then_laid m o n e).1 t only)

  pub classes_under : values_under added_class (items_in (record_of m)) ≡ contents_under added_class m
  classes_under =
      let a = added_alone in
      values_found added_class Nothing a.0 a.1 a.2 (record_of m) (read_then_laid m o n e).1 ∙ part_same added_class

  pub added_under : some (is_headed added_class) (items_in (record_of m)) ≡ is_found (headed added_class m)
  added_under = some_under added_class added_alone (is_headed added_class) (λ i f. f) ∙ and-true (is_found (headed added_class m))

  region_under : some (is_headed originating_region) (items_in (record_of m)) ≡ is_found (headed originating_region m)
  region_under =
      some_under originating_region region_alone (is_headed originating_region) (λ i f. f) ∙ and-true (is_found (headed originating_region m))

  pub network_under : (x : ℕ) → eqb 0 x ≡ false → some (is_network x) (items_in (record_of m)) ≡ eqb (network_in m) x
  network_under x z =
      some_under adjacent_network network_alone (is_network x) (only_network x) ∙ go (is_found (headed adjacent_network m)) refl
    where
      go : (b : Bool) → is_found (headed adjacent_network m) ≡ b → b && eqb (network_in m) x ≡ eqb (network_in m) x
      go true f = refl
      go false f = rw (none_part m (headed adjacent_network m) f) (sym z)

  opened_under : every added_right (items_in (record_of m)) ≡ pairs_right (contents_under added_class m)
  unfolding pairs_in
  opened_under =
      every_some added_right (items_in (record_of m))
      ∙ ap not (some_under added_class added_alone (λ i. not (added_right i)) only_added) ∙ go (is_found (headed added_class m)) refl
    where
      go : (b : Bool) → is_found (headed added_class m) ≡ b
          → not (b && not (pairs_right (contents_under added_class m))) ≡ pairs_right (contents_under added_class m)
      go true f = not-not (pairs_right (contents_under added_class m))
      go false f = rw (none_part m (headed added_class m) f)

  enquiry_under : some is_enquiry (record_of m) ≡ eqb (kind_in m) data_enquiry
  enquiry_under =
      let w = read_then_laid m o n e in
      let k = kind_found (record_of m) w.1 in
      k ∙ rw (w.2, common_plain_lem signal_kind m n e, e)

  -- what the code asks is what the profile asks
  pub keeps_so : keeps_plain m ≡ is_in_profile (record_of m)
  unfolding keeps_plain is_in_profile
  keeps_so =
      rw (enquiry_under, network_under phs refl, network_under mobile refl, region_under, added_under, opened_under)
