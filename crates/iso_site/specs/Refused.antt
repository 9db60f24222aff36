-- With which status a request is refused.
use Rattle.std.specs.Prelude.{ℕ}
use Rattle.iso_site.specs.declared.refusal.Refusal.{Refusal}
use Rattle.iso_site.specs.declared.refusal.Refusal.TheVariants.{ForeignHost, ForeignOrigin, NotFound, NotAllowed, NotJson}

-- the status of a refusal: misdirected, forbidden, not found, method not allowed, unsupported media type
abbrev pub status_of : Refusal → ℕ
status_of ForeignHost = 421
status_of ForeignOrigin = 403
status_of NotFound = 404
status_of NotAllowed = 405
status_of NotJson = 415
