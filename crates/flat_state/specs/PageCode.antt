-- A page as data, so that a model may have it as its value. Inside: no public clause cites this.
use Rattle.std.specs.Coded.{Coded, coded_ℕ, coded_list}
use Rattle.flat_model.specs.Words.{Page}

-- A page as data: the list of its bytes.
abbrev pub page_code : Coded Page
page_code = coded_list coded_ℕ
