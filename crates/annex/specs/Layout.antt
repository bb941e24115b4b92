-- A record laid out to octets: document 01, "Common part" and "Transfer data"; of the sequence, document 02, request d.
use Rattle.std.specs.Prelude.{ℕ, ◌+◌, ◌*◌, ◌/◌, ◌%◌, cond, List, [], ◌∷◌, ◌++◌, eqb, length}
use Rattle.annex.specs.Units.{extent_of}
use Rattle.annex.specs.Heads.{end_mark, sequence, transfer_data, is_call}
use Rattle.annex.specs.Items.{Item, Part, contents_of}
use Rattle.annex.specs.declared.Extent.{Extent}
use Rattle.annex.specs.declared.Extent.TheVariants.{Fixed, Counted}
use Rattle.annex.specs.declared.CountingUnit.TheVariants.{HalfOctet, Octet}

-- PLI 11: the length octet before the contents
abbrev pub led_by : Extent → List ℕ → List ℕ
led_by (Fixed n) s = s
led_by (Counted HalfOctet) s = s
led_by (Counted Octet) s = length s ∷ s

-- some things, each laid out, one behind the other
abbrev pub lay_all : {A : Type 0} → (A → List ℕ) → List A → List ℕ
lay_all lay [] = []
lay_all lay (x ∷ xs) = lay x ++ lay_all lay xs

-- a transfer parameter: its header and the octets after it
unfoldable pub layout_item : Item → List ℕ
layout_item i = i.header ∷ led_by (extent_of i.header) (contents_of i)

unfoldable pub layout_items : List Item → List ℕ
layout_items [] = []
layout_items (i ∷ is) = layout_item i ++ layout_items is

-- Common part: a call number, from its least octet to its highest
abbrev pub call_octets : ℕ → List ℕ
call_octets v = v % 256 ∷ v / 256 % 256 ∷ v / 65536 % 256 ∷ []

-- the octet of 01, 04 or 06. Request d: of 04, the more-data mark stands above the number
abbrev pub octet_of : Part → ℕ
octet_of p = cond (eqb p.header sequence) (128 * p.more_data + p.value) p.value

-- Common part: transfer data behind its length octet
abbrev pub data_octets : List ℕ → List ℕ
data_octets t = length t ∷ t

-- a common parameter
unfoldable pub layout_part : Part → List ℕ
layout_part p =
    p.header ∷
    cond (eqb p.header transfer_data) (data_octets (layout_items p.items))
    (cond (is_call p.header) (call_octets p.value)
    (octet_of p ∷ []))

-- Common part: the parameters in order, and the end mark behind them (house)
unfoldable pub layout : List Part → List ℕ
layout [] = end_mark ∷ []
layout (p ∷ ps) = layout_part p ++ layout ps
