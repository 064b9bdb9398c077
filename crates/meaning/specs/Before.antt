-- Paper 02, request 02: 'the answer it had before'. Paper 01 counted a text's width in bytes, and asked nothing else of them than it does now.
-- Only the theorem that ASCII is answered as before (laws and claims: AsBefore), and what it rests on, speaks of this.
use Rattle.std.specs.Prelude.{◌&&◌, leb, length}
use Rattle.base.specs.Lists.{all}
use Rattle.meaning.specs.Forms.{is_text_byte, TextRule}
use Rattle.meaning.specs.Format.{Format}
use Rattle.meaning.specs.Table.{scottish}

-- paper 01's rule: 0 to w bytes
unfoldable pub by_bytes : TextRule
by_bytes w t = leb (length t) w && all is_text_byte t

-- a format with another rule for its texts
abbrev pub with_texts : Format → TextRule → Format
with_texts F rule = record { known = F.known; fields = F.fields; key_names = F.key_names; refers_to = F.refers_to; enquiries = F.enquiries; text_rule = rule }

-- the format as it was before
abbrev pub before : Format
before = with_texts scottish by_bytes
