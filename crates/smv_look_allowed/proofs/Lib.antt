mod AllowedLaws
