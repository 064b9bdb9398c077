-- The forms that code names, as the meaning has them.
use Rattle.meaning.specs.Forms
use Rattle.meaning.specs.Forms.{Form as Meaning}
use Rattle.form.specs.declared.Form.{Form}
use Rattle.form.specs.declared.Form.TheVariants.{Number, AtLeast1, Decimal, Date, Time, Text, ChangeType, XrefType, FileType, KeyText}

-- the form that is meant
abbrev pub meant : Form → Meaning
meant (Number w) = Forms.number w
meant (AtLeast1 w) = Forms.at_least1 w
meant (Decimal w d) = Forms.decimal w d
meant Date = Forms.date
meant Time = Forms.time
meant (Text w) = Forms.text w
meant ChangeType = Forms.change_type
meant XrefType = Forms.xref_type
meant FileType = Forms.file_type
meant (KeyText letter) = Forms.key_text letter
